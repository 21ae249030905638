-- Terms as text, without a space: `ret(P)`, `fail(N)`, a call `sN(P,..,P)`, a frame `sN(P,..,P;T)`.
use Rattle.std.specs.Prelude.{ℕ, nat_le, Bool, false, ◌&&◌, List, [], ◌∷◌, ◌++◌, flat_map, codes}
use Rattle.std.specs.List.{list_all}
use Rattle.rx_poly.specs.declared.body.Body.{Body}
use Rattle.rx_text.specs.Formats.{Format}
use Rattle.rx_text.specs.Numbers.{natural_text}
use Rattle.rx_text.specs.Polynomials.{is_readable_poly, poly_text}
use Rattle.rx_term.specs.declared.term.Sym.{Sym}
use Rattle.rx_term.specs.declared.term.Term.{Term, Term-F, fold-Term}
use Rattle.rx_words.specs.Words.{numbers, word}

-- polynomials with a comma between two; nothing where there is none
abbrev pub polys_text : List Body → List ℕ
polys_text [] = []
polys_text (p ∷ ps) = poly_text p ++ flat_map (λ q. codes "," ++ poly_text q) ps

-- a symbol with its polynomials, up to what closes them
abbrev pub applied_text : Sym → List Body → List ℕ
applied_text f ps = codes "s" ++ (natural_text f.0 ++ (codes "(" ++ polys_text ps))

-- a term, by the text of the part under its outermost frame
abbrev pub term_text_level : Term-F (List ℕ) → List ℕ
term_text_level (Term-F.Return p) = codes "ret(" ++ (poly_text p ++ codes ")")
term_text_level (Term-F.Fail c) = codes "fail(" ++ (natural_text c ++ codes ")")
term_text_level (Term-F.Call f ps) = applied_text f ps ++ codes ")"
term_text_level (Term-F.Frame f ps inner) = applied_text f ps ++ (codes ";" ++ (inner ++ codes ")"))

-- the text of a term
abbrev pub term_text : Term → List ℕ
term_text = fold-Term (List ℕ) term_text_level

-- the symbol is one of u32, the polynomials have a text
abbrev pub is_readable_call : Sym → List Body → Bool
is_readable_call f ps = numbers.in_range f.0 && list_all is_readable_poly ps

-- terms that have a text: of such symbols and polynomials, with failure codes of u8
abbrev pub is_readable_level : Term-F Bool → Bool
is_readable_level (Term-F.Return p) = is_readable_poly p
is_readable_level (Term-F.Fail c) = nat_le c 255
is_readable_level (Term-F.Call f ps) = is_readable_call f ps
is_readable_level (Term-F.Frame f ps inner) = is_readable_call f ps && inner

abbrev pub is_readable_term : Term → Bool
is_readable_term = fold-Term Bool is_readable_level

-- the text of terms, wherever they are: nothing goes on with one
abbrev pub closed_terms : Format Term
closed_terms = record { text = term_text; in_range = is_readable_term; goes_on = λ byte. false }

-- terms as words
abbrev pub terms : Format Term
terms = word closed_terms
