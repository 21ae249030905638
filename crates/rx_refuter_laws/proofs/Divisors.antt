-- The ratios in rows of polynomials: each divisor is a number other than 0, and each dividend a
-- polynomial.
use Rattle.std.proofs.Common.{◌≡◌, ◌∙◌, ap, subst, sym, refl, cond, take, ℕ, Bool, true, false, not, ◌&&◌, Option, Some, None, List, [], ◌∷◌, ◌++◌, map, ℤ}
use Rattle.std.proofs.lemmas.Bool.{and_from, and_parts, not_from_false}
use Rattle.std.proofs.lemmas.List.Folds.{list_all-append}
use Rattle.std.specs.List.{flat_map, fold, list_all, list_any}
use Rattle.rx_plain.proofs.Lists.{all_taken}
use Rattle.rx_poly.specs.Reading.{constant_of}
use Rattle.rx_poly.specs.Terms.{is_zero}
use Rattle.rx_poly.specs.declared.body.Atom.{Atom, Atom-F, map-Atom, roll-Atom}
use Rattle.rx_poly.specs.declared.body.Atom.TheVariants.{rolls-Div, rolls-Mod, rolls-Var}
use Rattle.rx_poly.specs.declared.body.Body.{Body, Body-F, ind-Body, map-Body, out-Body, out-roll-Body, roll-Body}
use Rattle.rx_poly.specs.declared.body.Mono.{Mono, Mono-F, map-Mono, out-Mono, out-roll-Mono, roll-Mono}
use Rattle.rx_row.specs.Parts.{poly_of}
use Rattle.rx_row.specs.declared.row.Row.{Row}
use Rattle.rx_solve.specs.Divisions.{all_ratios, atom_ratios, by_number, has_polynomial, mono_ratios, own_ratio, pushed_ratio, ratios, rows_ratios, same_ratio}
use Rattle.rx_solve.specs.declared.divisions.Ratio.{Ratio}
use Rattle.rx_solve.proofs.RatioLaws.{mono_ratios_is, ratios_Div, ratios_Mod, ratios_Var, ratios_is, ratios_poly}
use Rattle.rx_refuter_laws.specs.Leaves.{has_poly, have_polys}

-- the divisor isn't 0
abbrev pub has_divisor : Ratio → Bool
has_divisor r = not (is_zero r.den)

-- the divisor isn't 0 and the dividend is a polynomial
abbrev pub is_sound : Ratio → Bool
is_sound r = has_divisor r && has_polynomial r

-- ---- in a polynomial

abbrev DivisorAtom : Atom → Type 0
DivisorAtom x = list_all has_divisor (atom_ratios x) ≡ true

abbrev DivisorBody : Body → Type 0
DivisorBody p = list_all has_divisor (ratios p) ≡ true

abbrev DivisorMono : Mono → Type 0
DivisorMono m = list_all has_divisor (mono_ratios m) ≡ true

abbrev AtomPart : Type 0
AtomPart = (x : Atom) × DivisorAtom x

abbrev BodyPart : Type 0
BodyPart = (p : Body) × DivisorBody p

abbrev MonoPart : Type 0
MonoPart = (m : Mono) × DivisorMono m

-- the level without its proofs
abbrev plain_atom : Atom-F AtomPart BodyPart MonoPart → Atom-F Atom Body Mono
plain_atom = map-Atom AtomPart BodyPart MonoPart Atom Body Mono (λ p. p.0) (λ p. p.0) (λ p. p.0)

abbrev plain_body : Body-F AtomPart BodyPart MonoPart → Body-F Atom Body Mono
plain_body = map-Body AtomPart BodyPart MonoPart Atom Body Mono (λ p. p.0) (λ p. p.0) (λ p. p.0)

abbrev plain_mono : Mono-F AtomPart BodyPart MonoPart → Mono-F Atom Body Mono
plain_mono = map-Mono AtomPart BodyPart MonoPart Atom Body Mono (λ p. p.0) (λ p. p.0) (λ p. p.0)

-- the ratio of a quotient or remainder itself
own_divisor : (p : Body) (o : Option ℤ) → list_all has_divisor (by_number p o) ≡ true
own_divisor p None = refl
own_divisor p (Some d) = by (is_zero d) refl
  where
    by : (b : Bool) → is_zero d ≡ b →
        list_all has_divisor (cond b [] (record { num = p; den = d } ∷ [])) ≡ true
    by true e = refl
    by false e = and_from (not (is_zero d)) true (not_from_false (is_zero d) e) refl

division_divisors : (p q : BodyPart) →
    list_all has_divisor (own_ratio p.0 q.0 ++ (ratios p.0 ++ ratios q.0)) ≡ true
division_divisors p q =
    list_all-append has_divisor (own_ratio p.0 q.0) (ratios p.0 ++ ratios q.0)
    ∙ and_from (list_all has_divisor (own_ratio p.0 q.0))
    (list_all has_divisor (ratios p.0 ++ ratios q.0))
    (own_divisor p.0 (constant_of (out-Body q.0).terms))
    (list_all-append has_divisor (ratios p.0) (ratios q.0) ∙
    and_from (list_all has_divisor (ratios p.0)) (list_all has_divisor (ratios q.0)) p.1 q.1)

atom_level : (y : Atom-F AtomPart BodyPart MonoPart) → DivisorAtom (roll-Atom (plain_atom y))
atom_level (Atom-F.Var n) =
    subst DivisorAtom (sym (rolls-Var n)) (ap (list_all has_divisor) (ratios_Var n))
atom_level (Atom-F.Div p q) =
    subst DivisorAtom (sym (rolls-Div p.0 q.0))
    (ap (list_all has_divisor) (ratios_Div p.0 q.0) ∙ division_divisors p q)
atom_level (Atom-F.Mod p q) =
    subst DivisorAtom (sym (rolls-Mod p.0 q.0))
    (ap (list_all has_divisor) (ratios_Mod p.0 q.0) ∙ division_divisors p q)

atom_step : (x : Atom-F Atom Body Mono) (y : Atom-F AtomPart BodyPart MonoPart) → plain_atom y ≡
    x → DivisorAtom (roll-Atom x)
atom_step x y is = subst (λ z. DivisorAtom (roll-Atom z)) is (atom_level y)

abbrev atom_of : AtomPart → Atom
atom_of p = p.0

atoms_divisors : (ps : List AtomPart) →
    list_all has_divisor (flat_map atom_ratios (map atom_of ps)) ≡ true
atoms_divisors [] = refl
atoms_divisors (p ∷ ps) =
    let rest = flat_map atom_ratios (map atom_of ps) in
    list_all-append has_divisor (atom_ratios p.0) rest
    ∙ and_from (list_all has_divisor (atom_ratios p.0)) (list_all has_divisor rest) p.1
    (atoms_divisors ps)

mono_step : (x : Mono-F Atom Body Mono) (y : Mono-F AtomPart BodyPart MonoPart) → plain_mono y ≡
    x → DivisorMono (roll-Mono x)
mono_step x y is = subst (λ z. DivisorMono (roll-Mono z)) is (
    let m = roll-Mono (plain_mono y) in
    let atoms : (out-Mono m).atoms ≡ (plain_mono y).atoms =
    ap (λ (z : Mono-F Atom Body Mono). z.atoms) (out-roll-Mono (plain_mono y)) in
    ap (list_all has_divisor) (mono_ratios_is m ∙ ap (flat_map atom_ratios) atoms)
    ∙ atoms_divisors y.atoms)

abbrev plain_term : MonoPart × ℤ → Mono × ℤ
plain_term t = ((t.0).0, t.1)

abbrev ratios_of_term : Mono × ℤ → List Ratio
ratios_of_term t = mono_ratios t.0

terms_divisors : (ps : List (MonoPart × ℤ)) →
    list_all has_divisor (flat_map ratios_of_term (map plain_term ps)) ≡ true
terms_divisors [] = refl
terms_divisors (p ∷ ps) =
    let rest = flat_map ratios_of_term (map plain_term ps) in
    list_all-append has_divisor (mono_ratios (p.0).0) rest
    ∙ and_from (list_all has_divisor (mono_ratios (p.0).0)) (list_all has_divisor rest) (p.0).1
    (terms_divisors ps)

body_step : (x : Body-F Atom Body Mono) (y : Body-F AtomPart BodyPart MonoPart) → plain_body y ≡
    x → DivisorBody (roll-Body x)
body_step x y is = subst (λ z. DivisorBody (roll-Body z)) is (
    let b = roll-Body (plain_body y) in
    let terms : (out-Body b).terms ≡ (plain_body y).terms =
    ap (λ (z : Body-F Atom Body Mono). z.terms) (out-roll-Body (plain_body y)) in
    ap (list_all has_divisor) (ratios_is b ∙ ap (flat_map ratios_of_term) terms)
    ∙ terms_divisors y.terms)

ratios_divisors : (p : Body) → list_all has_divisor (ratios p) ≡ true
ratios_divisors = ind-Body DivisorAtom DivisorBody DivisorMono atom_step body_step mono_step

-- ---- in rows

both_tests : (rs : List Ratio) → list_all has_divisor rs ≡ true → list_all has_polynomial rs ≡
    true → list_all is_sound rs ≡ true
both_tests [] h g = refl
both_tests (r ∷ rs) h g =
    let p = and_parts (has_divisor r) (list_all has_divisor rs) h in
    let q = and_parts (has_polynomial r) (list_all has_polynomial rs) g in
    and_from (is_sound r) (list_all is_sound rs)
    (and_from (has_divisor r) (has_polynomial r) p.0 q.0) (both_tests rs p.1 q.1)

rows_sound : (rows : List Row) → have_polys rows ≡ true → list_all is_sound (rows_ratios rows) ≡
    true
rows_sound [] h = refl
rows_sound (row ∷ rows) h =
    let g = and_parts (has_poly row) (have_polys rows) h in
    let p = poly_of row in
    list_all-append is_sound (ratios p) (rows_ratios rows)
    ∙ and_from (list_all is_sound (ratios p)) (list_all is_sound (rows_ratios rows))
    (both_tests (ratios p) (ratios_divisors p) (ratios_poly p g.0)) (rows_sound rows g.1)

pushed_sound : (done : List Ratio) (r : Ratio) → list_all is_sound done ≡ true → is_sound r ≡ true
    → list_all is_sound (pushed_ratio done r) ≡ true
pushed_sound done r h g = by (list_any (λ c. same_ratio c r) done)
  where
    by : (b : Bool) → list_all is_sound (cond b done (done ++ r ∷ [])) ≡ true
    by true = h
    by false =
        list_all-append is_sound done (r ∷ []) ∙
        and_from (list_all is_sound done) (is_sound r && true) h
        (and_from (is_sound r) true g refl)

each_once_sound : (rs done : List Ratio) → list_all is_sound done ≡ true → list_all is_sound rs ≡
    true → list_all is_sound (fold pushed_ratio done rs) ≡ true
each_once_sound [] done h g = h
each_once_sound (r ∷ rs) done h g =
    let p = and_parts (is_sound r) (list_all is_sound rs) g in
    each_once_sound rs (pushed_ratio done r) (pushed_sound done r h p.0) p.1

-- the first ratios of rows of polynomials are sound
pub first_sound : (n : ℕ) (rows : List Row) → have_polys rows ≡ true →
    list_all is_sound (take n (all_ratios rows)) ≡ true
first_sound n rows h =
    all_taken is_sound n (all_ratios rows) (each_once_sound (rows_ratios rows) [] refl
    (rows_sound rows h))
