use Rattle.std.proofs.Common.{◌≡◌, ◌++◌, map}
use Rattle.rx_inference.specs.Making.{failures, with_result}
use Rattle.rx_inference.proofs.results.push_failures.Given as goal

abbrev pub invariant-loop-before : goal.invariant-loop-before
invariant-loop-before l =
    l.goals ≡ l.fn.goals ++ map (with_result l.goal l.left l.right) (failures l.before)
