-- What is left still makes the whole, and can be split into runs.
use Rattle.std.proofs.Common.{length}
use Rattle.rx_poly.specs.Substitution.{subst_body}
use Rattle.rx_poly.specs.Replacements.{replacements}
use Rattle.rx_poly.proofs.Runs.{Left}
use Rattle.rx_poly.proofs.substitution.sum_with.Given as goal

abbrev pub invariant-loop-term : goal.invariant-loop-term
invariant-loop-term l =
    Left (replacements l.with) l.sum l.rest (subst_body (replacements l.with) l.poly)

abbrev pub decreases-loop-term : goal.decreases-loop-term
decreases-loop-term l = length l.rest
