-- The term so far, simplified by the steps that are left, is the whole.
use Rattle.std.proofs.Common.{◌-◌}
use Rattle.rx_match.specs.Beside.{most_simplifications}
use Rattle.rx_match.specs.Simplification.{simplified_often}
use Rattle.rx_match.proofs.SimplifyingLaws.{Simplifying}
use Rattle.rx_match.proofs.simplifying.simplify_often.Given as goal

abbrev pub invariant-loop : goal.invariant-loop
invariant-loop l =
    Simplifying l.rules l.term (most_simplifications - l.counter)
    (simplified_often l.rules most_simplifications l.initial.term)
