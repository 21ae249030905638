use Rattle.std.proofs.Common.{◌≡◌, length}
use Rattle.rx_cert.specs.Rounding.{divides_terms}
use Rattle.rx_cert.proofs.rounding.all_may_be_rounded.Given as goal

abbrev pub invariant-loop-term : goal.invariant-loop-term
invariant-loop-term l = divides_terms l.div l.rest ≡ divides_terms l.div l.terms

abbrev pub decreases-loop-term : goal.decreases-loop-term
decreases-loop-term l = length l.rest
