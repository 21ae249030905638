-- What a memo has of goals.
use Rattle.std.specs.Prelude.{◌≡◌, Contains, List}
use Rattle.rx_term.specs.declared.rule.Equation.{Equation}
use Rattle.rx_memo.specs.declared.goal_memo.Kept.{Kept}

module _ {V : Type 0} where
  -- the memo has this of the goal
  abbrev pub IsKept : List (Kept V) → Equation → V → Type 0
  IsKept memo goal value = Contains memo (record { goal = goal; value = value })

  -- the goal and the value are those
  pub record IsThat (goal : Equation) (value : V) (g : Equation) (v : V) : Type 0 where
    pub goal_is : g ≡ goal
    pub value_is : v ≡ value
