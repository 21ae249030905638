-- The frames so far, over what the rest becomes, are all.
use Rattle.std.proofs.Common.{◌≡◌, ◌+◌, ◌<◌, ◌^◌, length}
use Rattle.rx_term.specs.Stacks.{depth_of}
use Rattle.rx_term.specs.Variables.{arguments_of}
use Rattle.rx_shapes.specs.Building.{over_frames}
use Rattle.rx_shapes.specs.General.{general_from}
use Rattle.rx_shapes.proofs.general.general_from.Given as goal

abbrev pub invariant-loop-here : goal.invariant-loop-here
invariant-loop-here l = record {
  made : over_frames l.frames.items (general_from l.next l.here) ≡ general_from l.first l.term;
  few : l.next + length (arguments_of l.here) < 2 ^ 32;
}

abbrev pub decreases-loop-here : goal.decreases-loop-here
decreases-loop-here l = depth_of l.here
