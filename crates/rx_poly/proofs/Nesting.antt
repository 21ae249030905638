-- Quotients and remainders are nested at most as deep as a sum is large.
use Rattle.std.proofs.Common.{◌≡◌, ◌∙◌, ap, sym, subst, arith, ℕ, ◌+◌, ◌-◌, ◌≤◌, max, nat_le, true, List, [], ◌∷◌, map, sum_by, ℤ}
use Rattle.std.proofs.lemmas.Bool.{and_from, le-leb}
use Rattle.std.proofs.lemmas.List.Sums.{sum_by-cons}
use Rattle.rx_poly.specs.Limits.{atom_depth, atom_size, body_depth, body_size, greatest, is_small, mono_depth, mono_size}
use Rattle.rx_poly.proofs.Levels.{body_depth_is, body_size_is, depth_Div, depth_Mod, depth_Var, mono_depth_is, mono_size_is, size_Div, size_Mod}
use Rattle.rx_poly.specs.declared.body.Atom.{Atom, Atom-F, roll-Atom, map-Atom}
use Rattle.rx_poly.specs.declared.body.Atom.TheVariants.{Var, rolls-Var, rolls-Div, rolls-Mod}
use Rattle.rx_poly.specs.declared.body.Mono.{Mono, Mono-F, out-Mono, roll-Mono, out-roll-Mono, map-Mono}
use Rattle.rx_poly.specs.declared.body.Body.{Body, Body-F, out-Body, roll-Body, out-roll-Body, map-Body, ind-Body}

abbrev ShallowAtom : Atom → Type 0
ShallowAtom x = atom_depth x ≤ atom_size x

abbrev ShallowBody : Body → Type 0
ShallowBody b = body_depth b ≤ body_size b

abbrev ShallowMono : Mono → Type 0
ShallowMono m = mono_depth m ≤ mono_size m

abbrev PartAtom : Type 0
PartAtom = (x : Atom) × ShallowAtom x

abbrev PartBody : Type 0
PartBody = (b : Body) × ShallowBody b

abbrev PartMono : Type 0
PartMono = (m : Mono) × ShallowMono m

-- the level without its proofs
abbrev bare_atom : Atom-F PartAtom PartBody PartMono → Atom-F Atom Body Mono
bare_atom = map-Atom PartAtom PartBody PartMono Atom Body Mono (λ p. p.0) (λ p. p.0) (λ p. p.0)

abbrev bare_body : Body-F PartAtom PartBody PartMono → Body-F Atom Body Mono
bare_body = map-Body PartAtom PartBody PartMono Atom Body Mono (λ p. p.0) (λ p. p.0) (λ p. p.0)

abbrev bare_mono : Mono-F PartAtom PartBody PartMono → Mono-F Atom Body Mono
bare_mono = map-Mono PartAtom PartBody PartMono Atom Body Mono (λ p. p.0) (λ p. p.0) (λ p. p.0)

-- one more than the greater of two is at most one more than a greater sum
two_parts : (d e m n : ℕ) → d ≤ m → e ≤ n → 1 + max d e ≤ 1 + (m + n)
two_parts d e m n h g = grind (arith, h, g)

two_lists : (d e m n : ℕ) → d ≤ m → e ≤ n → max d e ≤ m + n
two_lists d e m n h g = grind (arith, h, g)

-- the greatest of a list is at most the sum of greater numbers
of_list : {P X : Type 0} (of : P → X) (f g : X → ℕ) → ((p : P) → f (of p) ≤ g (of p)) →
    (ps : List P) → greatest f (map of ps) ≤ sum_by g (map of ps)
of_list of f g each [] = omega (arith)
of_list of f g each (p ∷ ps) =
    subst (λ n. max (f (of p)) (greatest f (map of ps)) ≤ n) (sym (sum_by-cons g (of p) (map of ps)))
    (two_lists (f (of p)) (greatest f (map of ps)) (g (of p)) (sum_by g (map of ps)) (each p)
    (of_list of f g each ps))

atom_level : (y : Atom-F PartAtom PartBody PartMono) → ShallowAtom (roll-Atom (bare_atom y))
atom_level (Atom-F.Var n) =
    subst ShallowAtom (sym (rolls-Var n)) (subst (λ d. d ≤ atom_size (Var n)) (sym (depth_Var n))
    (omega (arith)))
atom_level (Atom-F.Div p q) =
    subst ShallowAtom (sym (rolls-Div p.0 q.0)) (rw (depth_Div p.0 q.0, size_Div p.0 q.0)
    (two_parts (body_depth p.0) (body_depth q.0) (body_size p.0) (body_size q.0) p.1 q.1))
atom_level (Atom-F.Mod p q) =
    subst ShallowAtom (sym (rolls-Mod p.0 q.0)) (rw (depth_Mod p.0 q.0, size_Mod p.0 q.0)
    (two_parts (body_depth p.0) (body_depth q.0) (body_size p.0) (body_size q.0) p.1 q.1))

atom_step : (x : Atom-F Atom Body Mono) (y : Atom-F PartAtom PartBody PartMono) → bare_atom y ≡ x →
    ShallowAtom (roll-Atom x)
atom_step x y is = subst (λ z. ShallowAtom (roll-Atom z)) is (atom_level y)

mono_step : (x : Mono-F Atom Body Mono) (y : Mono-F PartAtom PartBody PartMono) → bare_mono y ≡ x →
    ShallowMono (roll-Mono x)
mono_step x y is = subst (λ z. ShallowMono (roll-Mono z)) is (
    let m = roll-Mono (bare_mono y) in
    let atoms : (out-Mono m).atoms ≡ map (λ (p : PartAtom). p.0) y.atoms =
    ap (λ (z : Mono-F Atom Body Mono). z.atoms) (out-roll-Mono (bare_mono y)) in
    let depth = mono_depth_is m ∙ ap (greatest atom_depth) atoms in
    let size = mono_size_is m ∙ ap (λ xs. 1 + sum_by atom_size xs) atoms in
    let all = of_list (λ (p : PartAtom). p.0) atom_depth atom_size (λ p. p.1) y.atoms in
    omega (arith, depth, size, all))

abbrev bare_term : PartMono × ℤ → Mono × ℤ
bare_term t = ((t.0).0, t.1)

body_step : (x : Body-F Atom Body Mono) (y : Body-F PartAtom PartBody PartMono) → bare_body y ≡ x →
    ShallowBody (roll-Body x)
body_step x y is = subst (λ z. ShallowBody (roll-Body z)) is (
    let b = roll-Body (bare_body y) in
    let terms : (out-Body b).terms ≡ map bare_term y.terms =
    ap (λ (z : Body-F Atom Body Mono). z.terms) (out-roll-Body (bare_body y)) in
    let depth = body_depth_is b ∙ ap (greatest (λ (t : Mono × ℤ). mono_depth t.0)) terms in
    let size = body_size_is b ∙ ap (sum_by (λ (t : Mono × ℤ). mono_size t.0)) terms in
    let all = of_list bare_term (λ (t : Mono × ℤ). mono_depth t.0) (λ (t : Mono × ℤ). mono_size t.0)
    (λ t. (t.0).1) y.terms in
    omega (arith, depth, size, all))

-- a sum is nested at most as deep as it is large
pub shallow : (b : Body) → body_depth b ≤ body_size b
shallow = ind-Body ShallowAtom ShallowBody ShallowMono atom_step body_step mono_step

-- so one of a size up to 64 keeps the limits
pub small_shallow : (b : Body) (left : ℕ) → (body_size b ≤ 4096) × (left ≡ 4096 - body_size b) →
    4032 ≤ left → is_small b ≡ true
small_shallow b left taken most =
    let deep = shallow b in
    let size = taken.0 in
    let is = taken.1 in
    and_from (nat_le (body_size b) 4096) (nat_le (body_depth b) 64) (le-leb (body_size b) 4096 size)
    (le-leb (body_depth b) 64 (omega (arith, deep, size, is, most)))
