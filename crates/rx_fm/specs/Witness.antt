-- Multipliers that show that polynomials are not all at least 0.
use Rattle.std.specs.Prelude.{◌≡◌, false, List, [], ◌∷◌, length, All, ℤ, pos, ◌+ℤ◌, ◌*ℤ◌, ◌≤ℤ◌, ◌<ℤ◌}
use Rattle.rx_poly.specs.Limits.{of_atoms}
use Rattle.rx_poly.specs.Reading.{coefficient}
use Rattle.rx_poly.specs.declared.body.Body.{Body, out-Body}
use Rattle.rx_poly.specs.declared.body.Mono.{Mono}
use Rattle.rx_fm.specs.Elimination.{is_one}

-- the coefficient of the monomial in the sum of the polynomials, each times its multiplier
abbrev pub total : Mono → List Body → List ℤ → ℤ
total x [] ms = pos 0
total x (p ∷ ps) [] = pos 0
total x (p ∷ ps) (m ∷ ms) = m *ℤ coefficient x (out-Body p).terms +ℤ total x ps ms

-- the monomial of numbers
abbrev pub one : Mono
one = of_atoms []

-- one multiplier for each polynomial, none negative, and with them the sum of the polynomials is a
-- negative number
pub record IsWitness (ps : List Body) (ms : List ℤ) : Type 0 where
  pub one_each : length ms ≡ length ps
  pub none_negative : All (λ m. pos 0 ≤ℤ m) ms
  pub cancels : (x : Mono) → is_one x ≡ false → total x ps ms ≡ pos 0
  pub below_zero : total one ps ms <ℤ pos 0
