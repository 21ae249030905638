-- What is left decides.
use Rattle.std.proofs.Common.{◌≡◌, drop}
use Rattle.rx_poly.specs.Variables.{is_one_of}
use Rattle.rx_shapes.specs.GoalBounds.{placed}
use Rattle.rx_shapes.proofs.held.is_placed.Given as goal

abbrev pub invariant-loop-other : goal.invariant-loop-other
invariant-loop-other l =
    is_one_of l.variable (placed (drop l.other-index l.placed)) ≡
    is_one_of l.variable (placed l.placed)
