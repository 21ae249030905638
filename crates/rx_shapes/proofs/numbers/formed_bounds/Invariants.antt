-- What is added so far, and then for the goals that are left, is all.
use Rattle.std.proofs.Common.{drop}
use Rattle.rx_plain.proofs.FoldedInOrder.{Folding}
use Rattle.rx_shapes.specs.Numbers.{number_bounds, with_goal_numbers}
use Rattle.rx_shapes.proofs.numbers.formed_bounds.Given as goal

abbrev pub invariant-loop-goal : goal.invariant-loop-goal
invariant-loop-goal l =
    Folding (with_goal_numbers l.count) l.rows (drop l.goal-index l.goals)
    (number_bounds l.count l.fn.rows l.goals)
