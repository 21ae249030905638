-- What is under as many frames of each decides.
use Rattle.std.proofs.Common.{◌≡◌}
use Rattle.std.specs.Prelude.{nat_le}
use Rattle.rx_term.specs.Stacks.{depth_of}
use Rattle.rx_shapes.proofs.following.is_no_deeper.Given as goal

abbrev pub invariant-loop-here : goal.invariant-loop-here
invariant-loop-here l =
    nat_le (depth_of l.here) (depth_of l.there) ≡ nat_le (depth_of l.one) (depth_of l.other)

abbrev pub decreases-loop-here : goal.decreases-loop-here
decreases-loop-here l = depth_of l.here
