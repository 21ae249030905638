-- What compares as equal is the same: atoms, monomials and sums.
use Rattle.std.proofs.Common.{◌≡◌, ◌∙◌, ap, subst, ℕ, ℤ, Bool, true, refl, sym, List, [], ◌∷◌, map}
use Rattle.std.specs.Cmp.{signed_Decides, unsigned_Decides, unsigned_tied, Equal-is, tied_itself}
use Rattle.std.specs.Cmp.Lexicographic.{slice_cmp}
use Rattle.std.specs.Ordering.{nat_cmp, int_cmp, ordering_then, is_eq}
use Rattle.std.specs.declared.cmp.Ordering.{Ordering}
use Rattle.std.specs.declared.cmp.Ordering.TheVariants.{Less, Equal, Greater}
use Rattle.rx_plain.specs.Graded.{graded_cmp}
use Rattle.rx_poly.specs.Order.{atom_cmp, mono_cmp, body_cmp}
use Rattle.rx_poly.proofs.OrderLemmas.{mono_cmp_is, body_cmp_is, atom_cmp_is, atom_cmp_level, term_cmp, atom_total, body_total}
use Rattle.rx_poly.specs.contracts.body.AtomOrd.TheImpl.Laws as atom_laws
use Rattle.rx_poly.specs.contracts.body.AtomPartialEq.TheImpl as atom_equal
use Rattle.rx_poly.specs.contracts.body.BodyOrd.TheImpl.Laws as body_laws
use Rattle.rx_poly.specs.contracts.body.BodyPartialEq.TheImpl as body_equal
use Rattle.rx_poly.specs.declared.body.Atom.{Atom, Atom-F, out-Atom, roll-Atom, roll-out-Atom, out-roll-Atom, map-Atom, ind-Atom}
use Rattle.rx_poly.specs.declared.body.Mono.{Mono, Mono-F, out-Mono, roll-Mono, roll-out-Mono, out-roll-Mono, map-Mono, ind-Mono}
use Rattle.rx_poly.specs.declared.body.Body.{Body, Body-F, out-Body, roll-Body, roll-out-Body, out-roll-Body, map-Body, ind-Body}

-- what `==` of two sums computes
abbrev pub body_eq : Body → Body → Bool
body_eq = (body_equal.ghosts).eq

-- two comparisons in a row are equal where both are
pub then_equal : (a b : Ordering) → ordering_then a b ≡ Equal → (a ≡ Equal) × (b ≡ Equal)
then_equal Less b e = cc
then_equal Equal b e = (refl, e)
then_equal Greater b e = cc

pub nat_same : (m n : ℕ) → nat_cmp m n ≡ Equal → m ≡ n
nat_same m n e = (unsigned_Decides m n).0 (sym (unsigned_tied m n) ∙ ap is_eq e)

int_same : (x y : ℤ) → int_cmp x y ≡ Equal → x ≡ y
int_same x y e = (signed_Decides x y).0 (ap is_eq e)

abbrev SameAtom : Atom → Type 0
SameAtom x = (y : Atom) → atom_cmp x y ≡ Equal → x ≡ y

abbrev SameBody : Body → Type 0
SameBody p = (q : Body) → body_cmp p q ≡ Equal → p ≡ q

abbrev SameMono : Mono → Type 0
SameMono m = (n : Mono) → mono_cmp m n ≡ Equal → m ≡ n

abbrev PartAtom : Type 0
PartAtom = (x : Atom) × SameAtom x

abbrev PartBody : Type 0
PartBody = (p : Body) × SameBody p

abbrev PartMono : Type 0
PartMono = (m : Mono) × SameMono m

-- the level without its proofs
abbrev bare_atom : Atom-F PartAtom PartBody PartMono → Atom-F Atom Body Mono
bare_atom = map-Atom PartAtom PartBody PartMono Atom Body Mono (λ p. p.0) (λ p. p.0) (λ p. p.0)

abbrev bare_body : Body-F PartAtom PartBody PartMono → Body-F Atom Body Mono
bare_body = map-Body PartAtom PartBody PartMono Atom Body Mono (λ p. p.0) (λ p. p.0) (λ p. p.0)

abbrev bare_mono : Mono-F PartAtom PartBody PartMono → Mono-F Atom Body Mono
bare_mono = map-Mono PartAtom PartBody PartMono Atom Body Mono (λ p. p.0) (λ p. p.0) (λ p. p.0)

atoms_alike : (x : Atom-F PartAtom PartBody PartMono) (y : Atom-F Atom Body Mono) →
    atom_cmp_level (bare_atom x) y ≡ Equal → bare_atom x ≡ y
atoms_alike (Atom-F.Var m) (Atom-F.Var n) e = ap Atom-F.Var (nat_same m n e)
atoms_alike (Atom-F.Var m) (Atom-F.Div r s) e = cc
atoms_alike (Atom-F.Var m) (Atom-F.Mod r s) e = cc
atoms_alike (Atom-F.Div p q) (Atom-F.Var n) e = cc
atoms_alike (Atom-F.Div p q) (Atom-F.Div r s) e =
    let b = then_equal (body_cmp p.0 r) (body_cmp q.0 s) e in
    λ i. Atom-F.Div (p.1 r b.0 i) (q.1 s b.1 i)
atoms_alike (Atom-F.Div p q) (Atom-F.Mod r s) e = cc
atoms_alike (Atom-F.Mod p q) (Atom-F.Var n) e = cc
atoms_alike (Atom-F.Mod p q) (Atom-F.Div r s) e = cc
atoms_alike (Atom-F.Mod p q) (Atom-F.Mod r s) e =
    let b = then_equal (body_cmp p.0 r) (body_cmp q.0 s) e in
    λ i. Atom-F.Mod (p.1 r b.0 i) (q.1 s b.1 i)

atom_step : (x : Atom-F Atom Body Mono) (y : Atom-F PartAtom PartBody PartMono) → bare_atom y ≡ x →
    SameAtom (roll-Atom x)
atom_step x y is = subst (λ z. SameAtom (roll-Atom z)) is (λ w e.
    let level : atom_cmp_level (bare_atom y) (out-Atom w) ≡ Equal =
    (λ i. atom_cmp_level (sym (out-roll-Atom (bare_atom y)) i) (out-Atom w)) ∙
    sym (atom_cmp_is (roll-Atom (bare_atom y)) w) ∙ e in
    ap roll-Atom (atoms_alike y (out-Atom w) level) ∙ roll-out-Atom w)

lists_alike : (ps : List PartAtom) (ys : List Atom) →
    slice_cmp atom_cmp (map (λ (p : PartAtom). p.0) ps) ys ≡ Equal →
    map (λ (p : PartAtom). p.0) ps ≡ ys
lists_alike [] [] e = refl
lists_alike [] (y ∷ ys) e = cc
lists_alike (p ∷ ps) [] e = cc
lists_alike (p ∷ ps) (y ∷ ys) e =
    let b = then_equal (atom_cmp p.0 y) (slice_cmp atom_cmp (map (λ (p : PartAtom). p.0) ps) ys) e
    in
    λ i. p.1 y b.0 i ∷ lists_alike ps ys b.1 i

mono_step : (x : Mono-F Atom Body Mono) (y : Mono-F PartAtom PartBody PartMono) → bare_mono y ≡ x →
    SameMono (roll-Mono x)
mono_step x y is = subst (λ z. SameMono (roll-Mono z)) is (λ n e.
    let level : graded_cmp atom_cmp (bare_mono y).atoms (out-Mono n).atoms ≡ Equal =
    (λ i. graded_cmp atom_cmp (sym (out-roll-Mono (bare_mono y)) i).atoms (out-Mono n).atoms) ∙
    sym (mono_cmp_is (roll-Mono (bare_mono y)) n) ∙ e in
    let atoms : (bare_mono y).atoms ≡ (out-Mono n).atoms =
    lists_alike y.atoms (out-Mono n).atoms (then_equal _ _ level).1 in
    (λ i. roll-Mono (record { atoms = atoms i })) ∙ roll-out-Mono n)

abbrev bare_term : PartMono × ℤ → Mono × ℤ
bare_term t = ((t.0).0, t.1)

sums_alike : (ps : List (PartMono × ℤ)) (us : List (Mono × ℤ)) →
    slice_cmp term_cmp (map bare_term ps) us ≡ Equal → map bare_term ps ≡ us
sums_alike [] [] e = refl
sums_alike [] (u ∷ us) e = cc
sums_alike (p ∷ ps) [] e = cc
sums_alike (p ∷ ps) (u ∷ us) e =
    let b = then_equal (term_cmp (bare_term p) u) (slice_cmp term_cmp (map bare_term ps) us) e in
    let t = then_equal (mono_cmp (p.0).0 u.0) (int_cmp p.1 u.1) b.0 in
    λ i. ((p.0).1 u.0 t.0 i, int_same p.1 u.1 t.1 i) ∷ sums_alike ps us b.1 i

body_step : (x : Body-F Atom Body Mono) (y : Body-F PartAtom PartBody PartMono) → bare_body y ≡ x →
    SameBody (roll-Body x)
body_step x y is = subst (λ z. SameBody (roll-Body z)) is (λ q e.
    let level : slice_cmp term_cmp (bare_body y).terms (out-Body q).terms ≡ Equal =
    (λ i. slice_cmp term_cmp (sym (out-roll-Body (bare_body y)) i).terms (out-Body q).terms) ∙
    sym (body_cmp_is (roll-Body (bare_body y)) q) ∙ e in
    let terms : (bare_body y).terms ≡ (out-Body q).terms =
    sums_alike y.terms (out-Body q).terms level in
    (λ i. roll-Body (record { terms = terms i })) ∙ roll-out-Body q)

-- atoms that compare as equal are one
pub same_atom : (x y : Atom) → atom_cmp x y ≡ Equal → x ≡ y
same_atom = ind-Atom SameAtom SameBody SameMono atom_step body_step mono_step

-- monomials that compare as equal are one
pub same_mono : (m n : Mono) → mono_cmp m n ≡ Equal → m ≡ n
same_mono = ind-Mono SameAtom SameBody SameMono atom_step body_step mono_step

-- sums that compare as equal are one
pub same_body : (p q : Body) → body_cmp p q ≡ Equal → p ≡ q
same_body = ind-Body SameAtom SameBody SameMono atom_step body_step mono_step

-- `==` holds of sums that are one, and of no others
pub body_eq-sound : (p q : Body) → body_eq p q ≡ true → p ≡ q
body_eq-sound p q e =
    same_body p q ((Equal-is (body_cmp p q)).0 (sym (body_laws.matches_eq-law p q) ∙ e))

pub body_eq-refl : (p q : Body) → p ≡ q → body_eq p q ≡ true
body_eq-refl p q e =
    ap (body_eq p) (sym e) ∙ body_laws.matches_eq-law p p ∙ ap is_eq (tied_itself body_total p)

-- what `==` of two atoms computes
abbrev pub atom_eq : Atom → Atom → Bool
atom_eq = (atom_equal.ghosts).eq

-- `==` holds of atoms that are one, and of no others
pub atom_eq-sound : (x y : Atom) → atom_eq x y ≡ true → x ≡ y
atom_eq-sound x y e =
    same_atom x y ((Equal-is (atom_cmp x y)).0 (sym (atom_laws.matches_eq-law x y) ∙ e))

pub atom_eq-refl : (x y : Atom) → x ≡ y → atom_eq x y ≡ true
atom_eq-refl x y e =
    ap (atom_eq x) (sym e) ∙ atom_laws.matches_eq-law x x ∙ ap is_eq (tied_itself atom_total x)

-- sums of the same terms are one
pub sums_of_terms : (p q : Body) → (out-Body p).terms ≡ (out-Body q).terms → p ≡ q
sums_of_terms p q e =
    sym (roll-out-Body p) ∙ (λ i. roll-Body (record { terms = e i })) ∙ roll-out-Body q
