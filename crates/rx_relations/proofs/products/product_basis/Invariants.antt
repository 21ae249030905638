use Rattle.std.proofs.Common.{◌≡◌, ◌++◌, drop, map}
use Rattle.rx_poly.specs.Constants.{variable}
use Rattle.rx_relations.specs.Products.{product_basis}
use Rattle.rx_relations.proofs.products.product_basis.Given as goal

abbrev pub invariant-loop-place : goal.invariant-loop-place
invariant-loop-place l =
    l.basis ++ map variable (drop l.place-index l.places) ≡ (product_basis l.places).form
