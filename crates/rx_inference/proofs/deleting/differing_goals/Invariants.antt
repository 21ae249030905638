use Rattle.std.proofs.Common.{◌≡◌, map}
use Rattle.rx_inference.specs.Making.{differing}
use Rattle.rx_inference.proofs.deleting.differing_goals.Given as goal

abbrev pub invariant-loop-poly : goal.invariant-loop-poly
invariant-loop-poly l = l.goals ≡ map (differing l.goal) l.yielded
