-- The candidates of a goal's shape: what the rules of its calls test, then what holds at the goal.
use Rattle.std.specs.Prelude.{List, ◌++◌}
use Rattle.rx_plain.specs.Formed.{Formed, ◌>>=◌, ◌<$>◌}
use Rattle.rx_row.specs.declared.row.Row.{Row}
use Rattle.rx_term.specs.declared.rule.Equation.{Equation}
use Rattle.rx_term.specs.declared.rule_set.RuleParts.{RuleParts}
use Rattle.rx_shapes.specs.Bounds.{distinct, rule_bounds}
use Rattle.rx_shapes.specs.General.{general_of}
use Rattle.rx_shapes.specs.GoalBounds.{goal_bounds}

abbrev pub candidate_rows : RuleParts → Equation → Formed (List Row)
candidate_rows parts e = do
  tested ← rule_bounds parts (general_of e)
  (λ held. distinct (tested ++ held)) <$> goal_bounds e
