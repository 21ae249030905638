use Rattle.std.proofs.Common.{◌≡◌}
use Rattle.std.specs.Prelude.{filter}
use Rattle.rx_relations.specs.Products.{gives_a_place}
use Rattle.rx_relations.proofs.products.giving.Given as goal

abbrev pub invariant-loop-poly : goal.invariant-loop-poly
invariant-loop-poly l =
    l.kept ≡ filter gives_a_place l.yielded
