-- Normal forms: at every level terms are listed, atoms are sorted, and a quotient or remainder is
-- one that no rule computes.
use Rattle.std.specs.Prelude.{Bool, true, false, not, ◌&&◌, List, [], ◌∷◌, map, ℤ}
use Rattle.std.specs.List.{list_all}
use Rattle.std.specs.Ordering.{is_le, is_lt}
use Rattle.std.specs.declared.cmp.Ordering.{Ordering}
use Rattle.rx_poly.specs.Limits.{fits_i128, is_small}
use Rattle.rx_poly.specs.Order.{atom_cmp, mono_cmp}
use Rattle.rx_poly.specs.Terms.{is_sparse_sorted, is_zero}
use Rattle.rx_poly.specs.declared.body.Atom.{Atom, Atom-F, para-Atom}
use Rattle.rx_poly.specs.declared.body.Mono.{Mono, Mono-F, para-Mono, out-Mono}
use Rattle.rx_poly.specs.declared.body.Body.{Body, Body-F, para-Body, out-Body}

-- no element comes before one that is in front of it
abbrev pub is_sorted : {A : Type 0} → (A → A → Ordering) → List A → Bool
is_sorted R [] = true
is_sorted R (x ∷ xs) = list_all (λ y. is_le (R x y)) xs && is_sorted R xs

-- the element is not after the first of the others
abbrev pub is_first : {A : Type 0} → (A → A → Ordering) → A → List A → Bool
is_first R x [] = true
is_first R x (y ∷ ys) = is_le (R x y)

-- the term isn't 0, and its key comes before that of the first of the others
abbrev pub precedes : {K : Type 0} → (K → K → Ordering) → K × ℤ → List (K × ℤ) → Bool
precedes R t [] = not (is_zero t.1) && true
precedes R t (u ∷ us) = not (is_zero t.1) && is_lt (R t.0 u.0)

-- there is no element
abbrev pub is_empty : {A : Type 0} → List A → Bool
is_empty [] = true
is_empty (x ∷ xs) = false

-- the sum is one number: it has no term, or one that has no atom
abbrev pub is_number : List (Mono × ℤ) → Bool
is_number [] = true
is_number (t ∷ ts) = is_empty ts && is_empty (out-Mono t.0).atoms

-- a quotient or remainder stays an atom where the divisor is not 0 and not both parts are numbers
abbrev pub is_open : Body → Body → Bool
is_open p q =
    not (is_empty (out-Body q).terms) && not (is_number (out-Body p).terms &&
    is_number (out-Body q).terms)

-- each level sees its parts, and whether these are normal
abbrev pub atom_normal_level : Atom-F (Atom × Bool) (Body × Bool) (Mono × Bool) → Bool
atom_normal_level (Atom-F.Var n) = true
atom_normal_level (Atom-F.Div p q) = (p.1 && q.1) && is_open p.0 q.0
atom_normal_level (Atom-F.Mod p q) = (p.1 && q.1) && is_open p.0 q.0

-- the atoms are normal, and sorted
abbrev pub mono_normal_level : Mono-F (Atom × Bool) (Body × Bool) (Mono × Bool) → Bool
mono_normal_level m =
    list_all (λ (x : Atom × Bool). x.1) m.atoms &&
    is_sorted atom_cmp (map (λ (x : Atom × Bool). x.0) m.atoms)

-- the monomials are normal and the coefficients fit, and the terms are listed
abbrev pub body_normal_level : Body-F (Atom × Bool) (Body × Bool) (Mono × Bool) → Bool
body_normal_level b =
    list_all (λ (t : (Mono × Bool) × ℤ). (t.0).1 && fits_i128 t.1) b.terms
    && is_sparse_sorted mono_cmp (map (λ (t : (Mono × Bool) × ℤ). ((t.0).0, t.1)) b.terms)

-- an atom that is normal at every level
abbrev pub is_normal_atom : Atom → Bool
is_normal_atom = para-Atom Bool Bool Bool atom_normal_level body_normal_level mono_normal_level

-- a monomial that is normal at every level
abbrev pub is_normal_mono : Mono → Bool
is_normal_mono = para-Mono Bool Bool Bool atom_normal_level body_normal_level mono_normal_level

-- a sum that is normal at every level
abbrev pub is_normal : Body → Bool
is_normal = para-Body Bool Bool Bool atom_normal_level body_normal_level mono_normal_level

-- what every `Poly` is: a normal form within the limits
abbrev pub is_poly : Body → Bool
is_poly b = is_normal b && is_small b
