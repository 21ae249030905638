-- The variables of atoms, monomials and sums, at every level, as often as they occur there.
use Rattle.std.specs.Prelude.{ℕ, ◌+◌, ◌==◌, Bool, nat_lt, List, [], ◌∷◌, ◌++◌, ℤ}
use Rattle.std.specs.List.{flat_map, list_all, list_any}
use Rattle.rx_poly.specs.Limits.{greatest}
use Rattle.rx_poly.specs.declared.body.Atom.{Atom, Atom-F, fold-Atom}
use Rattle.rx_poly.specs.declared.body.Mono.{Mono, Mono-F, fold-Mono}
use Rattle.rx_poly.specs.declared.body.Body.{Body, Body-F, fold-Body}

-- a variable is one; a quotient or remainder has those of both parts
abbrev pub atom_variables_level : Atom-F (List ℕ) (List ℕ) (List ℕ) → List ℕ
atom_variables_level (Atom-F.Var n) = n ∷ []
atom_variables_level (Atom-F.Div p q) = p ++ q
atom_variables_level (Atom-F.Mod p q) = p ++ q

-- a monomial has those of its atoms
abbrev pub mono_variables_level : Mono-F (List ℕ) (List ℕ) (List ℕ) → List ℕ
mono_variables_level m = flat_map (λ vs. vs) m.atoms

-- a sum has those of its monomials
abbrev pub body_variables_level : Body-F (List ℕ) (List ℕ) (List ℕ) → List ℕ
body_variables_level b = flat_map (λ (t : List ℕ × ℤ). t.0) b.terms

-- the variables of an atom
abbrev pub atom_variables : Atom → List ℕ
atom_variables =
    fold-Atom (List ℕ) (List ℕ) (List ℕ) atom_variables_level body_variables_level
    mono_variables_level

-- the variables of a monomial
abbrev pub mono_variables : Mono → List ℕ
mono_variables =
    fold-Mono (List ℕ) (List ℕ) (List ℕ) atom_variables_level body_variables_level
    mono_variables_level

-- the variables of a polynomial
abbrev pub variables : Body → List ℕ
variables =
    fold-Body (List ℕ) (List ℕ) (List ℕ) atom_variables_level body_variables_level
    mono_variables_level

-- all of these are below the number
abbrev pub all_below : ℕ → List ℕ → Bool
all_below n vs = list_all (λ v. nat_lt v n) vs

-- the variables of an atom are below the number
abbrev pub atom_uses_below : ℕ → Atom → Bool
atom_uses_below n x = all_below n (atom_variables x)

-- those of a monomial are
abbrev pub mono_uses_below : ℕ → Mono → Bool
mono_uses_below n m = all_below n (mono_variables m)

-- those of a polynomial are
abbrev pub uses_below : ℕ → Body → Bool
uses_below n p = all_below n (variables p)

-- the variable is one of these
abbrev pub is_one_of : ℕ → List ℕ → Bool
is_one_of x vs = list_any (λ v. v == x) vs

-- the variable is one of an atom's
abbrev pub atom_uses : ℕ → Atom → Bool
atom_uses v x = is_one_of v (atom_variables x)

-- of a monomial's
abbrev pub mono_uses : ℕ → Mono → Bool
mono_uses v m = is_one_of v (mono_variables m)

-- of a polynomial's
abbrev pub uses : ℕ → Body → Bool
uses v p = is_one_of v (variables p)

-- the least number above all of these, 0 where there is none
abbrev pub bound_of : List ℕ → ℕ
bound_of vs = greatest (λ v. v + 1) vs

-- the least number above all variables of an atom
abbrev pub atom_bound : Atom → ℕ
atom_bound x = bound_of (atom_variables x)

-- of a monomial
abbrev pub mono_bound : Mono → ℕ
mono_bound m = bound_of (mono_variables m)

-- of a polynomial
abbrev pub variable_bound : Body → ℕ
variable_bound p = bound_of (variables p)
