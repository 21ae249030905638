-- What is left is a part of the whole, and has as many more frames as the whole had.
use Rattle.std.proofs.Common.{◌≡◌, ◌-◌}
use Rattle.rx_term.specs.Stacks.{depth_of}
use Rattle.rx_pairs.specs.Common.{IsPart}
use Rattle.rx_pairs.proofs.common.beyond.Given as goal

abbrev pub invariant-loop-here : goal.invariant-loop-here
invariant-loop-here l = record {
  part : IsPart l.term l.here;
  depth : depth_of l.here - depth_of l.rest ≡ depth_of l.term - depth_of l.other;
}

abbrev pub decreases-loop-here : goal.decreases-loop-here
decreases-loop-here l = depth_of l.here
