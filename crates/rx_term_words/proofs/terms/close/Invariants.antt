-- The frames that are closed are over the innermost part.
use Rattle.std.proofs.Common.{length}
use Rattle.rx_term_words.proofs.FrameLaws.{ClosedSoFar}
use Rattle.rx_term_words.proofs.terms.close.Given as goal

abbrev pub invariant-loop-sym : goal.invariant-loop-sym
invariant-loop-sym l =
    ClosedSoFar l.bytes l.at l.initial.outer l.initial.whole l.outer l.whole l.place

abbrev pub decreases-loop-sym : goal.decreases-loop-sym
decreases-loop-sym l = length l.outer
