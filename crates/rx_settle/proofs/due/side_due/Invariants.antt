-- The side is looked for among those that are left.
use Rattle.std.proofs.Common.{◌≡◌, length}
use Rattle.rx_settle.specs.Tasks.{side_due}
use Rattle.rx_settle.proofs.due.side_due.Given as goal

abbrev pub invariant-loop-side : goal.invariant-loop-side
invariant-loop-side l = side_due l.goal l.fn.task ≡ side_due l.goal l.rest

abbrev pub decreases-loop-side : goal.decreases-loop-side
decreases-loop-side l = length l.rest
