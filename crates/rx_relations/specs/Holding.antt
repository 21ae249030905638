-- What the values of a goal say of its places, and relations of a goal.
use Rattle.std.specs.Prelude.{◌≡◌, ℕ, List, All, map, ℤ, pos}
use Rattle.rx_poly.specs.Substitution.{numbered, updated_assignment}
use Rattle.rx_poly.specs.Value.{value}
use Rattle.rx_poly.specs.declared.body.Body.{Body}
use Rattle.rx_row.specs.Holds.{AllHold}
use Rattle.rx_row.specs.declared.row.Row.{Row}
use Rattle.rx_relations.specs.declared.instance.Instance.{Instance}

-- the polynomials are all 0
abbrev pub AllZero : (ℕ → ℤ) → List Body → Type 0
AllZero a ps = All (λ p. value a p ≡ pos 0) ps

-- under an assignment that meets the rows of the goal, the equations are 0, and the values are
-- those of the polynomials at its places
pub record Describes (a : ℕ → ℤ) (places : List Body) (goal : Instance) : Type 0 where
  pub equations : AllZero a goal.equations
  pub values : map (value a) goal.values ≡ map (value a) places

-- the goal's values in place of x_0, x_1, and so on
abbrev pub at_goal : (ℕ → ℤ) → Instance → ℕ → ℤ
at_goal a goal = updated_assignment a (numbered goal.values)

-- under each assignment that meets the equations of the goal, the rows hold of its values
abbrev pub HoldAt : List Row → Instance → Type 0
HoldAt rows goal = (a : ℕ → ℤ) → AllZero a goal.equations → AllHold (at_goal a goal) rows
