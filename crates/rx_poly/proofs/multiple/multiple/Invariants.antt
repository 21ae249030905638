use Rattle.std.proofs.Common.{drop}
use Rattle.rx_poly.specs.Limits.{all_fit}
use Rattle.rx_poly.specs.Terms.{times_number}
use Rattle.rx_poly.proofs.Pushing.{Pushing}
use Rattle.rx_poly.proofs.multiple.multiple.Given as goal

abbrev pub invariant-loop-term : goal.invariant-loop-term
invariant-loop-term l =
    Pushing l.multiples (times_number l.by (drop l.term-index l.terms)) (times_number l.by l.terms)
    (all_fit (times_number l.by l.terms))
