-- How large a polynomial is, and the limits that each one keeps: coefficients in i128, size up to
-- 4,096, nesting up to 64.
use Rattle.std.specs.Prelude.{ℕ, ◌+◌, ◌^◌, max, Bool, ◌&&◌, nat_lt, nat_le, List, [], ◌∷◌, sum_by, sum, ℤ, pos, negsuc}
use Rattle.std.specs.List.{list_all}
use Rattle.rx_poly.specs.Order.{mono_cmp}
use Rattle.rx_poly.specs.Terms.{add_terms, is_sparse_sorted, negated, times_number}
use Rattle.rx_poly.specs.declared.body.Atom.{Atom, Atom-F, fold-Atom}
use Rattle.rx_poly.specs.declared.body.Mono.{Mono, Mono-F, fold-Mono, roll-Mono}
use Rattle.rx_poly.specs.declared.body.Body.{Body, Body-F, fold-Body, roll-Body, out-Body}

-- the sum of these terms
abbrev pub of_terms : List (Mono × ℤ) → Body
of_terms ts = roll-Body (record { terms = ts })

-- the product of these atoms
abbrev pub of_atoms : List Atom → Mono
of_atoms xs = roll-Mono (record { atoms = xs })

-- ---- size: a variable has 1, a quotient or remainder 1 and both parts, a monomial 1 and its atoms, a sum its monomials

-- the size of an atom, by the sizes of its parts
abbrev pub atom_size_level : Atom-F ℕ ℕ ℕ → ℕ
atom_size_level (Atom-F.Var n) = 1
atom_size_level (Atom-F.Div p q) = 1 + (p + q)
atom_size_level (Atom-F.Mod p q) = 1 + (p + q)

-- of a monomial, by those of its atoms
abbrev pub mono_size_level : Mono-F ℕ ℕ ℕ → ℕ
mono_size_level m = 1 + sum m.atoms

-- of a sum, by those of its monomials
abbrev pub body_size_level : Body-F ℕ ℕ ℕ → ℕ
body_size_level b = sum_by (λ (t : ℕ × ℤ). t.0) b.terms

-- the size of an atom
abbrev pub atom_size : Atom → ℕ
atom_size = fold-Atom ℕ ℕ ℕ atom_size_level body_size_level mono_size_level

-- the size of a monomial
abbrev pub mono_size : Mono → ℕ
mono_size = fold-Mono ℕ ℕ ℕ atom_size_level body_size_level mono_size_level

-- the size of a sum
abbrev pub body_size : Body → ℕ
body_size = fold-Body ℕ ℕ ℕ atom_size_level body_size_level mono_size_level

-- ---- depth: how deep quotients and remainders are nested, 0 where there is none

-- the greatest of the numbers, 0 of none
abbrev pub greatest : {A : Type 0} → (A → ℕ) → List A → ℕ
greatest f [] = 0
greatest f (x ∷ xs) = max (f x) (greatest f xs)

-- the depth of an atom, by the depths of its parts
abbrev pub atom_depth_level : Atom-F ℕ ℕ ℕ → ℕ
atom_depth_level (Atom-F.Var n) = 0
atom_depth_level (Atom-F.Div p q) = 1 + max p q
atom_depth_level (Atom-F.Mod p q) = 1 + max p q

-- of a monomial, by those of its atoms
abbrev pub mono_depth_level : Mono-F ℕ ℕ ℕ → ℕ
mono_depth_level m = greatest (λ n. n) m.atoms

-- of a sum, by those of its monomials
abbrev pub body_depth_level : Body-F ℕ ℕ ℕ → ℕ
body_depth_level b = greatest (λ (t : ℕ × ℤ). t.0) b.terms

-- the depth of an atom
abbrev pub atom_depth : Atom → ℕ
atom_depth = fold-Atom ℕ ℕ ℕ atom_depth_level body_depth_level mono_depth_level

-- the depth of a monomial
abbrev pub mono_depth : Mono → ℕ
mono_depth = fold-Mono ℕ ℕ ℕ atom_depth_level body_depth_level mono_depth_level

-- the depth of a sum
abbrev pub body_depth : Body → ℕ
body_depth = fold-Body ℕ ℕ ℕ atom_depth_level body_depth_level mono_depth_level

-- ---- the limits

-- the number is one of i128
abbrev pub fits_i128 : ℤ → Bool
fits_i128 (pos n) = nat_lt n (2 ^ 127)
fits_i128 (negsuc n) = nat_lt n (2 ^ 127)

-- all coefficients are numbers of i128
abbrev pub all_fit : List (Mono × ℤ) → Bool
all_fit ts = list_all (λ t. fits_i128 t.1) ts

-- size and depth keep the limits
abbrev pub is_small : Body → Bool
is_small b = nat_le (body_size b) 4096 && nat_le (body_depth b) 64

-- a result keeps the limits: its coefficients, its size and its depth
abbrev pub is_within : Body → Bool
is_within b = all_fit (out-Body b).terms && is_small b

-- ---- the sum of two polynomials

-- the terms of both, added
abbrev pub body_sum : Body → Body → Body
body_sum p q = of_terms (add_terms mono_cmp (out-Body p).terms (out-Body q).terms)

-- the terms are listed, and their coefficients are numbers of i128
abbrev pub is_sum : List (Mono × ℤ) → Bool
is_sum ts = is_sparse_sorted mono_cmp ts && all_fit ts

-- ---- the difference of two polynomials, and one times a number

-- the terms of the first, and those of the second with reversed signs
abbrev pub body_difference : Body → Body → Body
body_difference p q = of_terms (add_terms mono_cmp (out-Body p).terms (negated (out-Body q).terms))

-- each term times the number
abbrev pub scaled_by : ℤ → Body → Body
scaled_by k p = of_terms (times_number k (out-Body p).terms)
