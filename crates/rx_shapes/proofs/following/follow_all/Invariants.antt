-- The shapes so far, and then those of the equations that are left, are all.
use Rattle.std.proofs.Common.{drop}
use Rattle.rx_shapes.specs.Following.{follow, follow_all}
use Rattle.rx_shapes.proofs.TriedInOrder.{Trying}
use Rattle.rx_shapes.proofs.following.follow_all.Given as goal

abbrev pub invariant-loop-equation : goal.invariant-loop-equation
invariant-loop-equation l =
    Trying (follow l.aim.rules.now l.aim.plan.now l.aim.goal.now) l.shapes
    (drop l.equation-index l.equations)
    (follow_all l.aim.rules.now l.aim.plan.now l.aim.goal.now l.fn.shapes l.equations)
