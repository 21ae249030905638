use Rattle.std.proofs.Common.{◌++◌, drop}
use Rattle.rx_poly.specs.Limits.{all_fit}
use Rattle.rx_poly.specs.Signs.{with_sign}
use Rattle.rx_poly.proofs.Pushing.{Pushing}
use Rattle.rx_poly.proofs.merge.push_all.Given as goal

abbrev pub invariant-loop-term : goal.invariant-loop-term
invariant-loop-term l =
    Pushing l.terms (with_sign l.sign (drop l.term-index l.more))
    (l.initial.terms ++ with_sign l.sign l.more) (all_fit (with_sign l.sign l.more))
