use Rattle.std.proofs.Common.{drop}
use Rattle.rx_poly.proofs.ReadingLaws.{Seeking}
use Rattle.rx_poly.proofs.poly.Poly.coeff.Given as goal

abbrev pub invariant-loop-term : goal.invariant-loop-term
invariant-loop-term l = Seeking l.at (drop l.term-index l.term-items) l.term-items
