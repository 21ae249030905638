use Rattle.std.proofs.Common.{drop, []}
use Rattle.rx_poly.specs.Products.{sum_of_products, sum_of_products_within}
use Rattle.rx_poly.proofs.Running.{Running}
use Rattle.rx_poly.specs.declared.body.Body.{out-Body}
use Rattle.rx_poly.proofs.poly.Poly.mul.Given as goal

abbrev pub invariant-loop-term : goal.invariant-loop-term
invariant-loop-term l =
    Running l.sum (drop l.term-index l.term-items) (out-Body l.other).terms
    (sum_of_products [] l.term-items (out-Body l.other).terms)
    (sum_of_products_within [] l.term-items (out-Body l.other).terms)
