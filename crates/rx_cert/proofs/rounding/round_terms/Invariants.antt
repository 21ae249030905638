use Rattle.std.proofs.Common.{◌≡◌, ◌++◌, drop}
use Rattle.rx_cert.specs.Rounding.{rounded_terms}
use Rattle.rx_cert.proofs.rounding.round_terms.Given as goal

abbrev pub invariant-loop-term : goal.invariant-loop-term
invariant-loop-term l =
    l.quotients ++ rounded_terms l.div (drop l.term-index l.terms) ≡ rounded_terms l.div l.terms
