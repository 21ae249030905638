-- What is left decides.
use Rattle.std.proofs.Common.{◌≡◌, drop}
use Rattle.rx_shapes.specs.Following.{is_followed}
use Rattle.rx_shapes.proofs.following.is_followed.Given as goal

abbrev pub invariant-loop-shape : goal.invariant-loop-shape
invariant-loop-shape l =
    is_followed (drop l.shape-index l.shapes) l.equation ≡ is_followed l.shapes l.equation
