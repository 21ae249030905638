use Rattle.std.proofs.Common.{◌≡◌, drop}
use Rattle.rx_fm.specs.Elimination.{with_monos}
use Rattle.rx_fm.proofs.monomials.push_monos.Given as goal

abbrev pub invariant-loop-term : goal.invariant-loop-term
invariant-loop-term l =
    with_monos (drop l.term-index l.terms) l.monos.items ≡ with_monos l.terms l.fn.monos.items
