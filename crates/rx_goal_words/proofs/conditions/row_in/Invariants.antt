-- The row is the one with the number that is left, of the groups that are left.
use Rattle.std.proofs.Common.{◌≡◌, length}
use Rattle.rx_goal_words.specs.ConditionTexts as spec
use Rattle.rx_goal_words.proofs.conditions.row_in.Given as goal

abbrev pub invariant-loop-group : goal.invariant-loop-group
invariant-loop-group l = spec.row_in l.rest l.left ≡ spec.row_in l.groups l.number

abbrev pub decreases-loop-group : goal.decreases-loop-group
decreases-loop-group l = length l.rest
