-- The frames so far, and then those that are left, are those of the whole.
use Rattle.rx_term.specs.Stacks.{depth_of}
use Rattle.rx_pairs.proofs.PartsLaws.{Passing}
use Rattle.rx_pairs.proofs.parts.outer_frames.Given as goal

abbrev pub invariant-loop-here : goal.invariant-loop-here
invariant-loop-here l = Passing l.parts.items l.rest l.here l.count l.term

abbrev pub decreases-loop-here : goal.decreases-loop-here
decreases-loop-here l = depth_of l.here
