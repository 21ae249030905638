-- The polynomial that is one number, and the one that is one variable.
use Rattle.std.specs.Prelude.{ℕ, [], ◌∷◌, ℤ, pos}
use Rattle.rx_poly.specs.Limits.{of_terms, of_atoms}
use Rattle.rx_poly.specs.Terms.{cons_nonzero}
use Rattle.rx_poly.specs.declared.body.Atom.TheVariants.{Var}
use Rattle.rx_poly.specs.declared.body.Body.{Body}

-- one number, with no term where it is 0
abbrev pub number : ℤ → Body
number k = of_terms (cons_nonzero (of_atoms []) k [])

-- one variable
abbrev pub variable : ℕ → Body
variable n = of_terms ((of_atoms (Var n ∷ []), pos 1) ∷ [])

-- a number other than 0 times one variable
abbrev pub variable_times : ℤ → ℕ → Body
variable_times k n = of_terms ((of_atoms (Var n ∷ []), k) ∷ [])
