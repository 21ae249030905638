-- Layers: no bytes begin with two of them, and they are read by their kinds.
use Rattle.std.proofs.Common.{◌≡◌, ◌∙◌, ap, refl, sym, ℕ, ◌-◌, ◌^◌, true, false, List, [], ◌∷◌, ◌++◌, drop, Option, Some, None, arith, append_assoc, codes}
use Rattle.std.specs.List.{list_all}
use Rattle.std.proofs.lemmas.Bool.{and_from, and_parts}
use Rattle.rx_term.proofs.Equations.{symbols_are}
use Rattle.rx_poly.specs.declared.body.Body.{Body}
use Rattle.rx_term.specs.declared.term.Sym.{Sym}
use Rattle.rx_text.specs.Formats.{BeginsWith, IsUnambiguous, Reads, StandsAt, is_over}
use Rattle.rx_text.specs.Numbers.{naturals}
use Rattle.rx_text.specs.Polynomials.{is_readable_poly, polynomials}
use Rattle.rx_text.proofs.Decimals.{naturals_unambiguous}
use Rattle.rx_text.proofs.Readable.{polynomials_unambiguous}
use Rattle.rx_text.proofs.Readers.{only_that}
use Rattle.rx_term_words.specs.Layers.{applications, arguments, failures, is_application, is_readable_layer, layer_text, layers, symbols, values}
use Rattle.rx_words.specs.Words.{numbers}
use Rattle.rx_term_words.specs.declared.arguments.Closer.{Closer}
use Rattle.rx_term_words.specs.declared.layers.Layer.{Layer}
use Rattle.rx_term_words.proofs.ArgumentLaws.{arguments_once}
use Rattle.rx_term_words.proofs.Bracketed.{bracketed_once}

pub none_goes_on : (left : List ℕ) → is_over (λ byte. false) left ≡ true
none_goes_on [] = refl
none_goes_on (byte ∷ left) = refl

pub values_once : IsUnambiguous values
values_once =
    bracketed_once (codes "ret(") polynomials (codes ")") (λ left. refl) polynomials_unambiguous

pub codes_once : IsUnambiguous (naturals 255)
codes_once = naturals_unambiguous 255 (omega arith)

pub failures_once : IsUnambiguous failures
failures_once = bracketed_once (codes "fail(") (naturals 255) (codes ")") (λ left. refl) codes_once

pub names_once : IsUnambiguous (naturals (2 ^ 32 - 1))
names_once = naturals_unambiguous (2 ^ 32 - 1) (omega arith)

pub symbols_once : IsUnambiguous symbols
symbols_once =
    bracketed_once (codes "s") (naturals (2 ^ 32 - 1)) (codes "(") (λ left. refl) names_once

-- ---- what is where a layer is

value_begins : {bytes left : List ℕ} {p : Body} → BeginsWith layers bytes (Layer.Return p) left →
    BeginsWith values bytes p left
value_begins b = record { in_range = b.in_range; text = b.text; over = b.over }

failure_begins : {bytes left : List ℕ} {c : ℕ} → BeginsWith layers bytes (Layer.Fail c) left →
    BeginsWith failures bytes c left
failure_begins b = record { in_range = b.in_range; text = b.text; over = b.over }

symbol_begins : {bytes left : List ℕ} {f : Sym} {ps : List Body} {closer : Closer} →
    BeginsWith layers bytes (Layer.Applied f ps closer) left
    → BeginsWith symbols bytes f.0 (arguments.text (ps, closer) ++ left)
symbol_begins {bytes} {left} {f} {ps} {closer} b = record {
  in_range = (and_parts (numbers.in_range f.0) (list_all is_readable_poly ps) b.in_range).0;
  text = b.text ∙ append_assoc (symbols.text f.0) (arguments.text (ps, closer)) left;
  over = none_goes_on (arguments.text (ps, closer) ++ left);
}

arguments_begin : {bytes left rest : List ℕ} {f : Sym} {ps : List Body} {closer : Closer} →
    BeginsWith layers bytes (Layer.Applied f ps closer) left
    → rest ≡ arguments.text (ps, closer) ++ left → BeginsWith arguments rest (ps, closer) left
arguments_begin {bytes} {left} {rest} {f} {ps} {closer} b e = record {
  in_range = (and_parts (numbers.in_range f.0) (list_all is_readable_poly ps) b.in_range).1;
  text = e;
  over = b.over;
}

-- the first byte gives the kind
abbrev first_of : List ℕ → ℕ
first_of [] = 0
first_of (byte ∷ bytes) = byte

abbrev kind_byte : Layer → ℕ
kind_byte (Layer.Return p) = 114
kind_byte (Layer.Fail c) = 102
kind_byte (Layer.Applied f ps closer) = 115

first_is : (layer : Layer) (left : List ℕ) → first_of (layer_text layer ++ left) ≡ kind_byte layer
first_is (Layer.Return p) left = refl
first_is (Layer.Fail c) left = refl
first_is (Layer.Applied f ps closer) left = refl

same_byte : {bytes left right : List ℕ} (x y : Layer) → BeginsWith layers bytes x left →
    BeginsWith layers bytes y right → kind_byte x ≡ kind_byte y
same_byte {bytes} {left} {right} x y b c =
    sym (first_is x left) ∙ ap first_of (sym b.text ∙ c.text) ∙ first_is y right

pub layers_once : IsUnambiguous layers
layers_once bytes (Layer.Return p) (Layer.Return q) left right b c =
    let s = values_once bytes p q left right (value_begins b) (value_begins c) in
    (ap Layer.Return s.0, s.1)
layers_once bytes (Layer.Fail m) (Layer.Fail n) left right b c =
    let s = failures_once bytes m n left right (failure_begins b) (failure_begins c) in
    (ap Layer.Fail s.0, s.1)
layers_once bytes (Layer.Applied f ps x) (Layer.Applied g qs y) left right b c =
    let s = symbols_once bytes f.0 g.0 (arguments.text (ps, x) ++ left)
    (arguments.text (qs, y) ++ right) (symbol_begins b) (symbol_begins c) in
    let t = arguments_once (arguments.text (ps, x) ++ left) (ps, x) (qs, y) left right
    (arguments_begin b refl) (arguments_begin c s.1) in
    ((λ i. Layer.Applied (symbols_are f g s.0 i) (t.0 i).0 (t.0 i).1), t.1)
layers_once bytes (Layer.Return p) (Layer.Fail n) left right b c =
    let e : 114 ≡ 102 = same_byte (Layer.Return p) (Layer.Fail n) b c in absurd (omega (arith, e))
layers_once bytes (Layer.Return p) (Layer.Applied g qs y) left right b c =
    let e : 114 ≡ 115 = same_byte (Layer.Return p) (Layer.Applied g qs y) b c in
    absurd (omega (arith, e))
layers_once bytes (Layer.Fail m) (Layer.Return q) left right b c =
    let e : 102 ≡ 114 = same_byte (Layer.Fail m) (Layer.Return q) b c in absurd (omega (arith, e))
layers_once bytes (Layer.Fail m) (Layer.Applied g qs y) left right b c =
    let e : 102 ≡ 115 = same_byte (Layer.Fail m) (Layer.Applied g qs y) b c in
    absurd (omega (arith, e))
layers_once bytes (Layer.Applied f ps x) (Layer.Return q) left right b c =
    let e : 115 ≡ 114 = same_byte (Layer.Applied f ps x) (Layer.Return q) b c in
    absurd (omega (arith, e))
layers_once bytes (Layer.Applied f ps x) (Layer.Fail n) left right b c =
    let e : 115 ≡ 102 = same_byte (Layer.Applied f ps x) (Layer.Fail n) b c in
    absurd (omega (arith, e))

-- ---- what was read of a layer

as_layer : {bytes left : List ℕ} {layer : Layer} → BeginsWith applications bytes layer left →
    BeginsWith layers bytes layer left
as_layer {bytes} {left} {layer} b = record {
  in_range = (and_parts (is_application layer) (is_readable_layer layer) b.in_range).1;
  text = b.text;
  over = b.over;
}

pub no_symbol : (bytes : List ℕ) (at : ℕ) → Reads symbols bytes at None →
    Reads applications bytes at None
no_symbol bytes at never (Layer.Return p) left b = let h = b.in_range in cc
no_symbol bytes at never (Layer.Fail c) left b = let h = b.in_range in cc
no_symbol bytes at never (Layer.Applied f ps closer) left b =
    never f.0 (arguments.text (ps, closer) ++ left) (symbol_begins (as_layer b))

pub no_arguments : (bytes : List ℕ) (at : ℕ) {middle n : ℕ} → StandsAt symbols bytes at n middle →
    Reads arguments bytes middle None → Reads applications bytes at None
no_arguments bytes at s never (Layer.Return p) left b = let h = b.in_range in cc
no_arguments bytes at s never (Layer.Fail c) left b = let h = b.in_range in cc
no_arguments bytes at s never (Layer.Applied f ps closer) left b =
    never (ps, closer) left (arguments_begin (as_layer b)
    (only_that symbols_once s (symbol_begins (as_layer b))).1)

pub application_stands : (bytes : List ℕ) (at : ℕ) {middle end : ℕ} (f : Sym) {ps : List Body}
    {closer : Closer} → StandsAt symbols bytes at f.0 middle
    → StandsAt arguments bytes middle (ps, closer) end →
    StandsAt applications bytes at (Layer.Applied f ps closer) end
application_stands bytes at {middle} {end} f {ps} {closer} s t = record {
  forward = omega (arith, s.forward, t.forward);
  inside = t.inside;
  begins = record {
    in_range =
        and_from (numbers.in_range f.0) (list_all is_readable_poly ps) s.begins.in_range
        t.begins.in_range;
    text =
        s.begins.text ∙ ap (λ b. symbols.text f.0 ++ b) t.begins.text
        ∙ sym (append_assoc (symbols.text f.0) (arguments.text (ps, closer)) (drop end bytes));
    over = t.begins.over;
  };
}

-- where there is neither a value nor a failure, a layer is an application
no_layer_there : (bytes : List ℕ) (at : ℕ) → Reads values bytes at None →
    Reads failures bytes at None → Reads applications bytes at None
    → Reads layers bytes at None
no_layer_there bytes at v f h (Layer.Return p) left b = v p left (value_begins b)
no_layer_there bytes at v f h (Layer.Fail c) left b = f c left (failure_begins b)
no_layer_there bytes at v f h (Layer.Applied g ps closer) left b =
    h (Layer.Applied g ps closer) left (record
    { in_range = b.in_range; text = b.text; over = b.over })

pub reads_layer : (bytes : List ℕ) (at : ℕ) → Reads values bytes at None →
    Reads failures bytes at None
    → (r : Option (Layer × ℕ)) → Reads applications bytes at r → Reads layers bytes at r
reads_layer bytes at v f None h = no_layer_there bytes at v f h
reads_layer bytes at v f (Some r) h =
    record { forward = h.forward; inside = h.inside; begins = as_layer h.begins }
