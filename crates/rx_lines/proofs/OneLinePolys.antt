-- The texts of polynomials and rows are one line. By induction on the polynomial.
use Rattle.std.proofs.Common.{◌≡◌, ◌∙◌, ap, refl, subst, sym, ℕ, true, List, [], ◌∷◌, ◌++◌, flat_map, map, ℤ}
use Rattle.rx_poly.specs.declared.body.Atom.{Atom, Atom-F, map-Atom, roll-Atom}
use Rattle.rx_poly.specs.declared.body.Atom.TheVariants.{rolls-Var, rolls-Div, rolls-Mod}
use Rattle.rx_poly.specs.declared.body.Body.{Body, Body-F, ind-Body, map-Body, out-roll-Body, roll-Body}
use Rattle.rx_poly.specs.declared.body.Mono.{Mono, Mono-F, map-Mono, out-roll-Mono, roll-Mono}
use Rattle.rx_row.specs.declared.row.Row.TheVariants.{Ge, Eq, Ne}
use Rattle.rx_text.specs.Numbers.{integer_text}
use Rattle.rx_text.specs.Polynomials.{atom_text, mono_text, poly_text, text_of_term}
use Rattle.rx_text.specs.Rows.{row_text}
use Rattle.rx_text.proofs.PolyTexts.{mono_text_is, poly_text_is, text_Var, text_Div, text_Mod, text_of_terms}
use Rattle.rx_lines.specs.Texts.{is_one_line}
use Rattle.rx_lines.proofs.OneLine.{AreOneLine, integer_one_line, joined, natural_one_line}

abbrev OneAtom : Atom → Type 0
OneAtom x = is_one_line (atom_text x) ≡ true

abbrev OneBody : Body → Type 0
OneBody p = is_one_line (poly_text p) ≡ true

abbrev OneMono : Mono → Type 0
OneMono m = is_one_line (mono_text m) ≡ true

abbrev PartAtom : Type 0
PartAtom = (x : Atom) × OneAtom x

abbrev PartBody : Type 0
PartBody = (p : Body) × OneBody p

abbrev PartMono : Type 0
PartMono = (m : Mono) × OneMono m

-- the level without its proofs
abbrev bare_atom : Atom-F PartAtom PartBody PartMono → Atom-F Atom Body Mono
bare_atom =
    map-Atom PartAtom PartBody PartMono Atom Body Mono (λ p. p.0) (λ p. p.0) (λ p. p.0)

abbrev bare_body : Body-F PartAtom PartBody PartMono → Body-F Atom Body Mono
bare_body =
    map-Body PartAtom PartBody PartMono Atom Body Mono (λ p. p.0) (λ p. p.0) (λ p. p.0)

abbrev bare_mono : Mono-F PartAtom PartBody PartMono → Mono-F Atom Body Mono
bare_mono =
    map-Mono PartAtom PartBody PartMono Atom Body Mono (λ p. p.0) (λ p. p.0) (λ p. p.0)

-- ---- atoms

closed : (bytes : List ℕ) → is_one_line bytes ≡ true → is_one_line (bytes ++ 41 ∷ []) ≡ true
closed bytes one = joined bytes (41 ∷ []) one refl

both_parts : (p q : List ℕ) → is_one_line p ≡ true → is_one_line q ≡ true
    → is_one_line (p ++ (44 ∷ (q ++ 41 ∷ []))) ≡ true
both_parts p q a b = joined p (44 ∷ (q ++ 41 ∷ [])) a (closed q b)

atom_level : (y : Atom-F PartAtom PartBody PartMono) → OneAtom (roll-Atom (bare_atom y))
atom_level (Atom-F.Var n) =
    subst OneAtom (sym (rolls-Var n)) (ap is_one_line (text_Var n) ∙ natural_one_line n)
atom_level (Atom-F.Div p q) =
    subst OneAtom (sym (rolls-Div p.0 q.0))
    (ap is_one_line (text_Div p.0 q.0) ∙ both_parts (poly_text p.0) (poly_text q.0) p.1 q.1)
atom_level (Atom-F.Mod p q) =
    subst OneAtom (sym (rolls-Mod p.0 q.0))
    (ap is_one_line (text_Mod p.0 q.0) ∙ both_parts (poly_text p.0) (poly_text q.0) p.1 q.1)

atom_step : (x : Atom-F Atom Body Mono) (y : Atom-F PartAtom PartBody PartMono)
    → bare_atom y ≡ x → OneAtom (roll-Atom x)
atom_step x y is = subst (λ z. OneAtom (roll-Atom z)) is (atom_level y)

-- ---- monomials

factors : (ps : List PartAtom)
    → is_one_line (flat_map (λ x. 42 ∷ atom_text x) (map (λ (p : PartAtom). p.0) ps)) ≡ true
factors [] = refl
factors (p ∷ ps) =
    joined (42 ∷ atom_text p.0)
    (flat_map (λ x. 42 ∷ atom_text x) (map (λ (p : PartAtom). p.0) ps)) p.1 (factors ps)

mono_level : (y : Mono-F PartAtom PartBody PartMono) → OneMono (roll-Mono (bare_mono y))
mono_level y =
    ap is_one_line
    (mono_text_is (roll-Mono (bare_mono y))
    ∙ ap (λ (level : Mono-F Atom Body Mono). flat_map (λ x. 42 ∷ atom_text x) level.atoms)
    (out-roll-Mono (bare_mono y)))
    ∙ factors y.atoms

mono_step : (x : Mono-F Atom Body Mono) (y : Mono-F PartAtom PartBody PartMono)
    → bare_mono y ≡ x → OneMono (roll-Mono x)
mono_step x y is = subst (λ z. OneMono (roll-Mono z)) is (mono_level y)

-- ---- sums

abbrev bare_term : PartMono × ℤ → Mono × ℤ
bare_term t = ((t.0).0, t.1)

term_one_line : (t : PartMono × ℤ) → is_one_line (text_of_term (bare_term t)) ≡ true
term_one_line t =
    joined (integer_text t.1) (mono_text (t.0).0) (integer_one_line t.1) (t.0).1

more_terms : (ts : List (PartMono × ℤ))
    → is_one_line (flat_map (λ u. 43 ∷ text_of_term u) (map bare_term ts)) ≡ true
more_terms [] = refl
more_terms (t ∷ ts) =
    joined (43 ∷ text_of_term (bare_term t))
    (flat_map (λ u. 43 ∷ text_of_term u) (map bare_term ts)) (term_one_line t) (more_terms ts)

sum_one_line : (ts : List (PartMono × ℤ))
    → is_one_line (text_of_terms (map bare_term ts)) ≡ true
sum_one_line [] = refl
sum_one_line (t ∷ ts) =
    joined (text_of_term (bare_term t))
    (flat_map (λ u. 43 ∷ text_of_term u) (map bare_term ts)) (term_one_line t) (more_terms ts)

body_level : (y : Body-F PartAtom PartBody PartMono) → OneBody (roll-Body (bare_body y))
body_level y =
    ap is_one_line (poly_text_is (roll-Body (bare_body y)))
    ∙ ap (λ (level : Body-F Atom Body Mono). is_one_line (text_of_terms level.terms))
    (out-roll-Body (bare_body y))
    ∙ sum_one_line y.terms

body_step : (x : Body-F Atom Body Mono) (y : Body-F PartAtom PartBody PartMono)
    → bare_body y ≡ x → OneBody (roll-Body x)
body_step x y is = subst (λ z. OneBody (roll-Body z)) is (body_level y)

pub poly_one_line : AreOneLine poly_text
poly_one_line = ind-Body OneAtom OneBody OneMono atom_step body_step mono_step

-- ---- rows

pub row_one_line : AreOneLine row_text
row_one_line (Ge p) = poly_one_line p
row_one_line (Eq p) = poly_one_line p
row_one_line (Ne p) = poly_one_line p
