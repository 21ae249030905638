-- The frames that are left, over what is made so far, are all.
use Rattle.std.proofs.Common.{◌≡◌, length}
use Rattle.rx_shapes.specs.Building.{over_frames}
use Rattle.rx_shapes.proofs.general.over_frames.Given as goal

abbrev pub invariant-loop-frame : goal.invariant-loop-frame
invariant-loop-frame l =
    over_frames l.left.items l.whole ≡ over_frames l.fn.frames.items l.fn.inner

abbrev pub decreases-loop-frame : goal.decreases-loop-frame
decreases-loop-frame l = length l.left.items
