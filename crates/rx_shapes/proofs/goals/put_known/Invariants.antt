-- Those so far, and then those that are left, are all.
use Rattle.std.proofs.Common.{◌≡◌, ◌++◌, map}
use Rattle.rx_shapes.specs.Goals.{put_to}
use Rattle.rx_shapes.proofs.goals.put_known.Given as goal

abbrev pub invariant-loop-shape : goal.invariant-loop-shape
invariant-loop-shape l =
    l.done ++ map (put_to l.known) l.shape-iterator.rest.items ≡ map (put_to l.known) l.fn.shapes
