use Rattle.std.proofs.Common.{drop}
use Rattle.rx_plain.proofs.MappedInOrder.{Mapping}
use Rattle.rx_poly.specs.Constants.{variable}
use Rattle.rx_poly.specs.Products.{product_formed}
use Rattle.rx_relations.proofs.products.times_each.Given as goal

abbrev pub invariant-loop-second : goal.invariant-loop-second
invariant-loop-second l =
    Mapping (λ j. product_formed (variable l.first) (variable j)) l.made (drop l.second-index l.places)
    l.places
