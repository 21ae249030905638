-- Polynomials as text, as `-2*v0*div(1*v0,1*v1)+3`: the terms in the order of the normal form.
use Rattle.std.specs.Prelude.{ℕ, Bool, ◌&&◌, ◌||◌, ◌==◌, List, [], ◌∷◌, ◌++◌, flat_map, ℤ, codes}
use Rattle.rx_poly.specs.Normal.{is_poly}
use Rattle.rx_poly.specs.Variables.{uses_below}
use Rattle.rx_poly.specs.declared.body.Atom.{Atom, Atom-F, fold-Atom}
use Rattle.rx_poly.specs.declared.body.Body.{Body, Body-F, fold-Body}
use Rattle.rx_poly.specs.declared.body.Mono.{Mono, Mono-F, fold-Mono}
use Rattle.rx_text.specs.Formats.{Format}
use Rattle.rx_text.specs.Numbers.{integer_text, is_digit, natural_text}

-- `name(P,Q)`
abbrev pub pair_text : List ℕ → List ℕ → List ℕ → List ℕ
pair_text name p q = name ++ (p ++ (codes "," ++ (q ++ codes ")")))

-- an atom, by the texts of its parts: `vN`, `div(P,Q)`, `mod(P,Q)`
abbrev pub atom_text_level : Atom-F (List ℕ) (List ℕ) (List ℕ) → List ℕ
atom_text_level (Atom-F.Var n) = codes "v" ++ natural_text n
atom_text_level (Atom-F.Div p q) = pair_text (codes "div(") p q
atom_text_level (Atom-F.Mod p q) = pair_text (codes "mod(") p q

-- a monomial: `*` before each atom
abbrev pub mono_text_level : Mono-F (List ℕ) (List ℕ) (List ℕ) → List ℕ
mono_text_level m = flat_map (λ (atom : List ℕ). codes "*" ++ atom) m.atoms

-- a term: its coefficient, also where it is 1, and its monomial
abbrev pub term_text : List ℕ × ℤ → List ℕ
term_text t = integer_text t.1 ++ t.0

-- the terms joined by `+`; `0` where there is none
abbrev pub terms_text : List (List ℕ × ℤ) → List ℕ
terms_text [] = codes "0"
terms_text (t ∷ ts) = term_text t ++ flat_map (λ (u : List ℕ × ℤ). codes "+" ++ term_text u) ts

abbrev pub body_text_level : Body-F (List ℕ) (List ℕ) (List ℕ) → List ℕ
body_text_level b = terms_text b.terms

-- the text of an atom
abbrev pub atom_text : Atom → List ℕ
atom_text = fold-Atom (List ℕ) (List ℕ) (List ℕ) atom_text_level body_text_level mono_text_level

-- the text of a monomial, after the coefficient
abbrev pub mono_text : Mono → List ℕ
mono_text = fold-Mono (List ℕ) (List ℕ) (List ℕ) atom_text_level body_text_level mono_text_level

-- the text of a term
abbrev pub text_of_term : Mono × ℤ → List ℕ
text_of_term t = term_text (mono_text t.0, t.1)

-- the text of a polynomial
abbrev pub poly_text : Body → List ℕ
poly_text = fold-Body (List ℕ) (List ℕ) (List ℕ) atom_text_level body_text_level mono_text_level

-- polynomials that have a text: normal forms within the limits, whose variables are below 1,000,000
abbrev pub is_readable_poly : Body → Bool
is_readable_poly p = is_poly p && uses_below 1000000 p

-- a digit or `*` would go on with a term
abbrev pub goes_on_with_term : ℕ → Bool
goes_on_with_term byte = is_digit byte || byte == 42

-- a digit, `*` or `+` would go on with a polynomial
abbrev pub goes_on_with_poly : ℕ → Bool
goes_on_with_poly byte = goes_on_with_term byte || byte == 43

-- the text of polynomials
abbrev pub polynomials : Format Body
polynomials = record { text = poly_text; in_range = is_readable_poly; goes_on = goes_on_with_poly }
