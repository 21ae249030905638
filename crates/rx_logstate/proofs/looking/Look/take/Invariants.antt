-- The piece was taken up to what is left.
use Rattle.std.proofs.Common.{length}
use Rattle.rx_logstate.proofs.LookLemmas.{TakenSoFar}
use Rattle.rx_logstate.proofs.looking.Look.take.Given as goal

abbrev pub invariant-loop-left : goal.invariant-loop-left
invariant-loop-left l = TakenSoFar l.fn.self l.self l.rules l.fn.piece l.left

abbrev pub decreases-loop-left : goal.decreases-loop-left
decreases-loop-left l = length l.left
