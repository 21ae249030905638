-- What comes first in the text of a term: a frame, or a call or result; and terms up to their
-- innermost call or result.
use Rattle.std.specs.Prelude.{◌≡◌, ℕ, ◌≤◌, ◌-◌, ◌^◌, ◌||◌, ◌==◌, Bool, true, false, ◌&&◌, Option, Some, None, List, [], ◌∷◌, ◌++◌, length, drop, flat_map, codes}
use Rattle.std.specs.List.{list_all}
use Rattle.rx_poly.specs.declared.body.Body.{Body}
use Rattle.rx_term.specs.declared.term.Sym.{Sym}
use Rattle.rx_term.specs.declared.term.Term.{Term}
use Rattle.rx_term.specs.declared.term.Term.TheVariants as made
use Rattle.rx_text.specs.Formats.{Format}
use Rattle.rx_text.specs.Numbers.{naturals}
use Rattle.rx_text.specs.Polynomials.{goes_on_with_poly, is_readable_poly, polynomials}
use Rattle.rx_term_words.specs.Terms.{is_readable_call, polys_text}
use Rattle.rx_term_words.specs.declared.arguments.Closer.{Closer}
use Rattle.rx_term_words.specs.declared.layers.Layer.{Layer}

-- things between two fixed words
abbrev pub bracketed : {A : Type 0} → List ℕ → Format A → List ℕ → Format A
bracketed before each behind = record {
  text = λ thing. before ++ (each.text thing ++ behind);
  in_range = each.in_range;
  goes_on = λ byte. false;
}

-- returned values, failure codes, and symbols up to their polynomials
abbrev pub values : Format Body
values = bracketed (codes "ret(") polynomials (codes ")")

abbrev pub failures : Format ℕ
failures = bracketed (codes "fail(") (naturals 255) (codes ")")

abbrev pub symbols : Format ℕ
symbols = bracketed (codes "s") (naturals (2 ^ 32 - 1)) (codes "(")

-- what comes after the polynomials: of a frame `;`, of a call `)`
abbrev pub closer_text : Closer → List ℕ
closer_text Closer.Semicolon = codes ";"
closer_text Closer.Parenthesis = codes ")"

abbrev pub closers : Format Closer
closers = record { text = closer_text; in_range = λ closer. true; goes_on = λ byte. false }

abbrev pub is_some : List Body → Bool
is_some [] = false
is_some (p ∷ ps) = true

-- one polynomial or more, with a comma between two
abbrev pub some_polys : Format (List Body)
some_polys = record {
  text = polys_text;
  in_range = λ ps. is_some ps && list_all is_readable_poly ps;
  goes_on = λ next. goes_on_with_poly next || next == 44;
}

-- polynomials, with what closes them
abbrev pub arguments : Format (List Body × Closer)
arguments = record {
  text = λ (args : List Body × Closer). polys_text args.0 ++ closer_text args.1;
  in_range = λ (args : List Body × Closer). list_all is_readable_poly args.0;
  goes_on = λ byte. false;
}

-- the text of a layer
abbrev pub layer_text : Layer → List ℕ
layer_text (Layer.Return p) = values.text p
layer_text (Layer.Fail c) = failures.text c
layer_text (Layer.Applied f ps closer) = symbols.text f.0 ++ arguments.text (ps, closer)

abbrev pub is_readable_layer : Layer → Bool
is_readable_layer (Layer.Return p) = values.in_range p
is_readable_layer (Layer.Fail c) = failures.in_range c
is_readable_layer (Layer.Applied f ps closer) = is_readable_call f ps

abbrev pub layers : Format Layer
layers = record { text = layer_text; in_range = is_readable_layer; goes_on = λ byte. false }

-- a symbol with its polynomials and what closes them
abbrev pub is_application : Layer → Bool
is_application (Layer.Return p) = false
is_application (Layer.Fail c) = false
is_application (Layer.Applied f ps closer) = true

abbrev pub applications : Format Layer
applications = record {
  text = layer_text;
  in_range = λ layer. is_application layer && is_readable_layer layer;
  goes_on = λ byte. false;
}

-- ---- frames

-- a frame as a layer
abbrev pub frame_layer : Sym × List Body → Layer
frame_layer frame = Layer.Applied frame.0 frame.1 Closer.Semicolon

-- a layer that is no frame
abbrev pub is_last : Layer → Bool
is_last (Layer.Return p) = true
is_last (Layer.Fail c) = true
is_last (Layer.Applied f ps Closer.Semicolon) = false
is_last (Layer.Applied f ps Closer.Parenthesis) = true

-- frames up to what they are over, and what closes them
abbrev pub openings : List (Sym × List Body) → List ℕ
openings frames = flat_map (λ frame. layer_text (frame_layer frame)) frames

abbrev pub closings : List (Sym × List Body) → List ℕ
closings frames = flat_map (λ (frame : Sym × List Body). codes ")") frames

abbrev pub is_readable_frame : Sym × List Body → Bool
is_readable_frame frame = is_readable_call frame.0 frame.1

-- terms up to the end of their innermost call or result
abbrev pub open_terms : Format (List (Sym × List Body) × Layer)
open_terms = record {
  text = λ (term : List (Sym × List Body) × Layer). openings term.0 ++ layer_text term.1;
  in_range = λ (term : List (Sym × List Body) × Layer).
      list_all is_readable_frame term.0 && (is_last term.1 && is_readable_layer term.1);
  goes_on = λ byte. false;
}

-- the call or result that is such a layer
abbrev pub innermost : Layer → Term
innermost (Layer.Return p) = made.Return p
innermost (Layer.Fail c) = made.Fail c
innermost (Layer.Applied f ps closer) = made.Call f ps

-- the term with those frames over the other
abbrev pub around : List (Sym × List Body) → Term → Term
around [] inner = inner
around (frame ∷ frames) inner = made.Frame frame.0 frame.1 (around frames inner)

-- the term with those frames, and the place after what closes them; None exactly where they aren't
-- closed
abbrev pub Closes : List (Sym × List Body) → Term → List ℕ → ℕ → Option (Term × ℕ) → Type 0
Closes frames inner bytes at (Some read) =
    (read.0 ≡ around frames inner)
    × ((at ≤ read.1) × ((read.1 ≤ length bytes) ×
    (drop at bytes ≡ closings frames ++ drop read.1 bytes)))
Closes frames inner bytes at None = (left : List ℕ) → ¬ (drop at bytes ≡ closings frames ++ left)
