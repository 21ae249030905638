-- Value, size, depth and normal form of a monomial or a sum, by those of its parts.
use Rattle.std.proofs.Common.{◌≡◌, ◌∙◌, ap, ℕ, ◌+◌, ◌≤◌, max, nat_le, ℤ, ◌+ℤ◌, ◌*ℤ◌, Bool, true, ◌&&◌, refl, sym, List, [], ◌∷◌, map, sum_by}
use Rattle.std.proofs.lemmas.Bool.{and_parts, leb-true}
use Rattle.std.proofs.lemmas.List.Sums.{sum_by-cons, sum-map}
use Rattle.std.specs.List.{list_all}
use denote.Hole.Carrier
use Rattle.rx_poly.specs.Limits.{of_terms, of_atoms, atom_size, mono_size, body_size, atom_size_level, mono_size_level, body_size_level, greatest, atom_depth, mono_depth, body_depth, atom_depth_level, mono_depth_level, body_depth_level, fits_i128, is_small}
use Rattle.rx_poly.specs.Normal.{is_sorted, is_open, is_normal_atom, is_normal_mono, is_normal, atom_normal_level, mono_normal_level, body_normal_level}
use Rattle.rx_poly.specs.Order.{atom_cmp, mono_cmp}
use Rattle.rx_poly.specs.Terms.{is_sparse_sorted}
use Rattle.rx_poly.specs.Value.{sum_terms, product_of, atom_level, mono_level, body_level, atom_value, mono_value, value}
use Rattle.rx_poly.specs.declared.body.Atom.{Atom, Atom-F, out-Atom, roll-Atom, roll-out-Atom, fold_out-Atom, para-roll-Atom}
use Rattle.rx_poly.specs.declared.body.Atom.TheVariants.{Var, Div, Mod, outs-Var, outs-Div, outs-Mod}
use Rattle.rx_poly.specs.declared.body.Mono.{Mono, Mono-F, out-Mono, out-roll-Mono, roll-out-Mono, fold_out-Mono, para-roll-Mono}
use Rattle.rx_poly.specs.declared.body.Body.{Body, Body-F, out-Body, out-roll-Body, roll-out-Body, fold_out-Body, para-roll-Body}

-- the terms of a sum that is made of terms are these
pub terms-of_terms : (ts : List (Mono × ℤ)) → (out-Body (of_terms ts)).terms ≡ ts
terms-of_terms ts =
    ap (λ (b : Body-F Atom Body Mono). b.terms) (out-roll-Body (record { terms = ts }))

pub atoms-of_atoms : (xs : List Atom) → (out-Mono (of_atoms xs)).atoms ≡ xs
atoms-of_atoms xs =
    ap (λ (m : Mono-F Atom Body Mono). m.atoms) (out-roll-Mono (record { atoms = xs }))

-- ---- value

sum_mapped : {X Y : Type 0} (f : X → ℤ) (g : Y → X) (ts : List (Y × ℤ)) →
    sum_terms f (map (λ t. (g t.0, t.1)) ts) ≡ sum_terms (λ y. f (g y)) ts
sum_mapped f g [] = refl
sum_mapped f g (t ∷ ts) = ap (λ s. t.1 *ℤ f (g t.0) +ℤ s) (sum_mapped f g ts)

product_mapped : {X Y : Type 0} (f : X → ℤ) (g : Y → X) (xs : List Y) → product_of f (map g xs) ≡
    product_of (λ y. f (g y)) xs
product_mapped f g [] = refl
product_mapped f g (x ∷ xs) = ap (λ s. f (g x) *ℤ s) (product_mapped f g xs)

-- a sum has the value of its terms together
pub value_is : (a : ℕ → ℤ) (b : Body) → value a b ≡ sum_terms (mono_value a) (out-Body b).terms
value_is a b =
    fold_out-Body ℤ ℤ ℤ (atom_level a) body_level mono_level b ∙
    sum_mapped (λ z. z) (mono_value a) (out-Body b).terms

-- a monomial has as value the product of its atoms
pub mono_value_is : (a : ℕ → ℤ) (m : Mono) → mono_value a m ≡
    product_of (atom_value a) (out-Mono m).atoms
mono_value_is a m =
    fold_out-Mono ℤ ℤ ℤ (atom_level a) body_level mono_level m ∙
    product_mapped (λ z. z) (atom_value a) (out-Mono m).atoms

-- a variable has the value that it is given
pub var_value : (a : ℕ → ℤ) (n : ℕ) → atom_value a (Var n) ≡ a n
unfolding out-Atom denote.Hole.Carrier.out
var_value a n = fold_out-Atom ℤ ℤ ℤ (atom_level a) body_level mono_level (Var n)

-- ---- size and depth

sum_of_mapped : {Y : Type 0} (g : Y → ℕ) (ts : List (Y × ℤ)) →
    sum_by (λ (t : ℕ × ℤ). t.0) (map (λ t. (g t.0, t.1)) ts) ≡ sum_by (λ t. g t.0) ts
sum_of_mapped g [] = refl
sum_of_mapped g (t ∷ ts) =
    sum_by-cons (λ (t : ℕ × ℤ). t.0) (g t.0, t.1) (map (λ t. (g t.0, t.1)) ts)
    ∙ ap (λ n. g t.0 + n) (sum_of_mapped g ts) ∙ sym (sum_by-cons (λ t. g t.0) t ts)

pub body_size_is : (b : Body) → body_size b ≡
    sum_by (λ (t : Mono × ℤ). mono_size t.0) (out-Body b).terms
body_size_is b =
    fold_out-Body ℕ ℕ ℕ atom_size_level body_size_level mono_size_level b ∙
    sum_of_mapped mono_size (out-Body b).terms

pub mono_size_is : (m : Mono) → mono_size m ≡ 1 + sum_by atom_size (out-Mono m).atoms
mono_size_is m =
    fold_out-Mono ℕ ℕ ℕ atom_size_level body_size_level mono_size_level m ∙
    ap (λ n. 1 + n) (sum-map atom_size (out-Mono m).atoms)

greatest_mapped : {X Y : Type 0} (f : X → ℕ) (g : Y → X) (ys : List Y) → greatest f (map g ys) ≡
    greatest (λ y. f (g y)) ys
greatest_mapped f g [] = refl
greatest_mapped f g (y ∷ ys) = ap (λ n. max (f (g y)) n) (greatest_mapped f g ys)

pub body_depth_is : (b : Body) → body_depth b ≡
    greatest (λ (t : Mono × ℤ). mono_depth t.0) (out-Body b).terms
body_depth_is b =
    fold_out-Body ℕ ℕ ℕ atom_depth_level body_depth_level mono_depth_level b
    ∙ greatest_mapped (λ (t : ℕ × ℤ). t.0) (λ (t : Mono × ℤ). (mono_depth t.0, t.1))
    (out-Body b).terms

pub mono_depth_is : (m : Mono) → mono_depth m ≡ greatest atom_depth (out-Mono m).atoms
mono_depth_is m =
    fold_out-Mono ℕ ℕ ℕ atom_depth_level body_depth_level mono_depth_level m ∙
    greatest_mapped (λ n. n) atom_depth (out-Mono m).atoms

-- ---- normal forms

abbrev known_atom : Atom → Atom × Bool
known_atom x = (x, is_normal_atom x)

abbrev known_term : Mono × ℤ → (Mono × Bool) × ℤ
known_term t = ((t.0, is_normal_mono t.0), t.1)

known_atoms : (xs : List Atom) → map (λ (x : Atom × Bool). x.0) (map known_atom xs) ≡ xs
known_atoms [] = refl
known_atoms (x ∷ xs) = ap (λ ys. x ∷ ys) (known_atoms xs)

passed_atoms : (xs : List Atom) → list_all (λ (x : Atom × Bool). x.1) (map known_atom xs) ≡
    list_all is_normal_atom xs
passed_atoms [] = refl
passed_atoms (x ∷ xs) = ap (λ s. is_normal_atom x && s) (passed_atoms xs)

known_terms : (ts : List (Mono × ℤ)) → map (λ (t : (Mono × Bool) × ℤ). ((t.0).0, t.1))
    (map known_term ts) ≡ ts
known_terms [] = refl
known_terms (t ∷ ts) = ap (λ us. t ∷ us) (known_terms ts)

passed_terms : (ts : List (Mono × ℤ)) → list_all
    (λ (t : (Mono × Bool) × ℤ). (t.0).1 && fits_i128 t.1) (map known_term ts) ≡
    list_all (λ (t : Mono × ℤ). is_normal_mono t.0 && fits_i128 t.1) ts
passed_terms [] = refl
passed_terms (t ∷ ts) = ap (λ s. (is_normal_mono t.0 && fits_i128 t.1) && s) (passed_terms ts)

-- a monomial is normal where its atoms are, and are sorted
pub is_normal_mono_is : (m : Mono) → is_normal_mono m ≡
    (list_all is_normal_atom (out-Mono m).atoms && is_sorted atom_cmp (out-Mono m).atoms)
is_normal_mono_is m =
    ap is_normal_mono (sym (roll-out-Mono m))
    ∙ para-roll-Mono Bool Bool Bool atom_normal_level body_normal_level mono_normal_level
    (out-Mono m)
    ∙ (λ i. passed_atoms (out-Mono m).atoms i &&
    is_sorted atom_cmp (known_atoms (out-Mono m).atoms i))

-- a sum is normal where its monomials are, its coefficients fit and its terms are listed
pub is_normal_is : (b : Body) → is_normal b ≡
    (list_all (λ (t : Mono × ℤ). is_normal_mono t.0 && fits_i128 t.1) (out-Body b).terms &&
    is_sparse_sorted mono_cmp (out-Body b).terms)
is_normal_is b =
    ap is_normal (sym (roll-out-Body b))
    ∙ para-roll-Body Bool Bool Bool atom_normal_level body_normal_level mono_normal_level
    (out-Body b)
    ∙ (λ i. passed_terms (out-Body b).terms i &&
    is_sparse_sorted mono_cmp (known_terms (out-Body b).terms i))

-- ---- atoms

-- whether an atom is normal, seen at its first level
abbrev normal_first : Atom-F Atom Body Mono → Bool
normal_first (Atom-F.Var n) = true
normal_first (Atom-F.Div p q) = (is_normal p && is_normal q) && is_open p q
normal_first (Atom-F.Mod p q) = (is_normal p && is_normal q) && is_open p q

known_first : (y : Atom-F Atom Body Mono) → is_normal_atom (roll-Atom y) ≡ normal_first y
known_first (Atom-F.Var n) =
    para-roll-Atom Bool Bool Bool atom_normal_level body_normal_level mono_normal_level
    (Atom-F.Var n)
known_first (Atom-F.Div p q) =
    para-roll-Atom Bool Bool Bool atom_normal_level body_normal_level mono_normal_level
    (Atom-F.Div p q)
known_first (Atom-F.Mod p q) =
    para-roll-Atom Bool Bool Bool atom_normal_level body_normal_level mono_normal_level
    (Atom-F.Mod p q)

is_normal_atom_is : (x : Atom) → is_normal_atom x ≡ normal_first (out-Atom x)
is_normal_atom_is x = ap is_normal_atom (sym (roll-out-Atom x)) ∙ known_first (out-Atom x)

-- a variable is normal
pub var_is_normal : (n : ℕ) → is_normal_atom (Var n) ≡ true
var_is_normal n = is_normal_atom_is (Var n) ∙ ap normal_first (outs-Var n)

-- a quotient is normal where its parts are and no rule computes it, and so is a remainder
pub div_is_normal : (p q : Body) → is_normal_atom (Div p q) ≡
    ((is_normal p && is_normal q) && is_open p q)
div_is_normal p q = is_normal_atom_is (Div p q) ∙ ap normal_first (outs-Div p q)

pub mod_is_normal : (p q : Body) → is_normal_atom (Mod p q) ≡
    ((is_normal p && is_normal q) && is_open p q)
mod_is_normal p q = is_normal_atom_is (Mod p q) ∙ ap normal_first (outs-Mod p q)

-- ---- a quotient or remainder, and what is small

pub size_Div : (p q : Body) → atom_size (Div p q) ≡ 1 + (body_size p + body_size q)
size_Div p q =
    fold_out-Atom ℕ ℕ ℕ atom_size_level body_size_level mono_size_level (Div p q) ∙
    rw (outs-Div p q) refl

pub size_Mod : (p q : Body) → atom_size (Mod p q) ≡ 1 + (body_size p + body_size q)
size_Mod p q =
    fold_out-Atom ℕ ℕ ℕ atom_size_level body_size_level mono_size_level (Mod p q) ∙
    rw (outs-Mod p q) refl

pub depth_Var : (n : ℕ) → atom_depth (Var n) ≡ 0
depth_Var n =
    fold_out-Atom ℕ ℕ ℕ atom_depth_level body_depth_level mono_depth_level (Var n) ∙
    rw (outs-Var n) refl

pub depth_Div : (p q : Body) → atom_depth (Div p q) ≡ 1 + max (body_depth p) (body_depth q)
depth_Div p q =
    fold_out-Atom ℕ ℕ ℕ atom_depth_level body_depth_level mono_depth_level (Div p q) ∙
    rw (outs-Div p q) refl

pub depth_Mod : (p q : Body) → atom_depth (Mod p q) ≡ 1 + max (body_depth p) (body_depth q)
depth_Mod p q =
    fold_out-Atom ℕ ℕ ℕ atom_depth_level body_depth_level mono_depth_level (Mod p q) ∙
    rw (outs-Mod p q) refl

-- what is small keeps the limits of size and of depth
pub small_parts : (p : Body) → is_small p ≡ true → (body_size p ≤ 4096) × (body_depth p ≤ 64)
small_parts p h =
    let g = and_parts (nat_le (body_size p) 4096) (nat_le (body_depth p) 64) h in
    (leb-true (body_size p) 4096 g.0, leb-true (body_depth p) 64 g.1)
