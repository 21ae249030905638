-- 0 is a polynomial.
use Rattle.rx_poly.proofs.PolyLaws.{zero_poly}
use Rattle.rx_poly.proofs.poly.zero.Goals as goal

pub invariant_of-result : goal.invariant_of-result
invariant_of-result c = rw (c.in_ok-body.ensures, c.new-terms.ensures) zero_poly
