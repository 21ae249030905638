-- The shapes so far, and then the goals that are left, give all.
use Rattle.std.proofs.Common.{drop}
use Rattle.rx_shapes.specs.Goals.{put, put_all}
use Rattle.rx_shapes.proofs.TriedInOrder.{Trying}
use Rattle.rx_shapes.proofs.goals.put_all.Given as goal

abbrev pub invariant-loop-equation : goal.invariant-loop-equation
invariant-loop-equation l =
    Trying put l.shapes (drop l.equation-index l.equations) (put_all l.fn.shapes l.equations)
