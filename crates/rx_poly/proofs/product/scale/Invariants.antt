use Rattle.std.proofs.Common.{drop}
use Rattle.rx_poly.specs.Products.{term_product}
use Rattle.rx_poly.proofs.Scaling.{Scaling}
use Rattle.rx_poly.proofs.product.scale.Given as goal

abbrev pub invariant-loop-other : goal.invariant-loop-other
invariant-loop-other l =
    Scaling l.term l.products (drop l.other-index l.terms) (term_product l.term l.terms)
