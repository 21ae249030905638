-- The parts so far, before those of what is left, are those of the term.
use Rattle.std.proofs.Common.{◌≡◌, ◌++◌, map}
use Rattle.rx_term.specs.Stacks.{depth_of}
use Rattle.rx_moves.specs.SuffixAnswers.{part_of}
use Rattle.rx_moves.specs.Suffixes.{inwards}
use Rattle.rx_moves.proofs.finding.parts_inwards.Given as goal

abbrev pub invariant-loop-here : goal.invariant-loop-here
invariant-loop-here l = map part_of l.parts.items ++ inwards l.here ≡ inwards l.term

abbrev pub decreases-loop-here : goal.decreases-loop-here
decreases-loop-here l = depth_of l.here
