-- What is done at points, in integers.
use Rattle.std.specs.Prelude.{ℕ, suc, List, ◌∷◌, ◌++◌, take, drop, ℤ}
use Rattle.rx_poly.specs.Value.{quotient, remainder}
use Rattle.rx_code.specs.declared.action.Action.{Action}
use Rattle.rx_code.specs.declared.action.Division.{Division}
use Rattle.rx_code.specs.declared.action.Division.TheVariants.{Quotient, Remainder}
use Rattle.rx_code.specs.declared.point.Point.{Point}

-- which action is at which point
abbrev pub Actions : Type 1
Actions = Point → Action → Type 0

-- a list with an element in place k, which may be the next place; the other elements stay
abbrev pub with_element : {A : Type 0} → ℕ → A → List A → List A
with_element k x xs = take k xs ++ x ∷ drop (suc k) xs

-- the result of a division
abbrev pub division_result : Division → ℤ → ℤ → ℤ
division_result Quotient x y = quotient x y
division_result Remainder x y = remainder x y
