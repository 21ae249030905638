-- What is left decides.
use Rattle.std.proofs.Common.{◌≡◌, drop}
use Rattle.std.specs.List.{find}
use Rattle.rx_shapes.specs.Following.{is_of}
use Rattle.rx_shapes.proofs.following.shape_of.Given as goal

abbrev pub invariant-loop-shape : goal.invariant-loop-shape
invariant-loop-shape l =
    find (is_of l.equation) (drop l.shape-index l.shapes) ≡ find (is_of l.equation) l.shapes
