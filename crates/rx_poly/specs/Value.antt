-- The integer that is the value of an atom, a monomial or a sum, where `a` gives each variable an
-- integer.
use Rattle.std.specs.Prelude.{ℕ, if◌then◌else◌, List, [], ◌∷◌, ℤ, pos, ◌+ℤ◌, ◌*ℤ◌, int_div, int_rem}
use Rattle.rx_poly.specs.Terms.{is_zero}
use Rattle.rx_poly.specs.declared.body.Atom.{Atom, Atom-F, fold-Atom}
use Rattle.rx_poly.specs.declared.body.Mono.{Mono, Mono-F, fold-Mono}
use Rattle.rx_poly.specs.declared.body.Body.{Body, Body-F, fold-Body}

-- the quotient, truncated toward zero; 0 at divisor 0
abbrev pub quotient : ℤ → ℤ → ℤ
quotient z d = if is_zero d then pos 0 else int_div z d

-- the remainder that belongs to it, with the sign of z; 0 at divisor 0
abbrev pub remainder : ℤ → ℤ → ℤ
remainder z d = if is_zero d then pos 0 else int_rem z d

-- the sum of the terms, where `f` is the value of a key
abbrev pub sum_terms : {K : Type 0} → (K → ℤ) → List (K × ℤ) → ℤ
sum_terms f [] = pos 0
sum_terms f (t ∷ ts) = t.1 *ℤ f t.0 +ℤ sum_terms f ts

-- the product of the factors, where `f` is the value of a factor
abbrev pub product_of : {A : Type 0} → (A → ℤ) → List A → ℤ
product_of f [] = pos 1
product_of f (x ∷ xs) = f x *ℤ product_of f xs

-- the value of an atom, by those of its parts
abbrev pub atom_level : (ℕ → ℤ) → Atom-F ℤ ℤ ℤ → ℤ
atom_level a (Atom-F.Var n) = a n
atom_level a (Atom-F.Div p q) = quotient p q
atom_level a (Atom-F.Mod p q) = remainder p q

-- of a sum, by those of its monomials
abbrev pub body_level : Body-F ℤ ℤ ℤ → ℤ
body_level b = sum_terms (λ z. z) b.terms

-- of a monomial, by those of its atoms
abbrev pub mono_level : Mono-F ℤ ℤ ℤ → ℤ
mono_level m = product_of (λ z. z) m.atoms

-- the value of an atom
abbrev pub atom_value : (ℕ → ℤ) → Atom → ℤ
atom_value a = fold-Atom ℤ ℤ ℤ (atom_level a) body_level mono_level

-- the value of a monomial
abbrev pub mono_value : (ℕ → ℤ) → Mono → ℤ
mono_value a = fold-Mono ℤ ℤ ℤ (atom_level a) body_level mono_level

-- the value of a polynomial
abbrev pub value : (ℕ → ℤ) → Body → ℤ
value a = fold-Body ℤ ℤ ℤ (atom_level a) body_level mono_level
