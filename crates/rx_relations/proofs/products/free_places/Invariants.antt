use Rattle.std.proofs.Common.{◌≡◌, ◌++◌, ◌-◌, not}
use Rattle.std.specs.Prelude.{filter}
use Rattle.std.specs.List.{range_with_len}
use Rattle.rx_poly.specs.Variables.{is_one_of}
use Rattle.rx_relations.specs.Products.{free_places}
use Rattle.rx_relations.proofs.products.free_places.Given as goal

abbrev pub invariant-loop-place : goal.invariant-loop-place
invariant-loop-place l =
    l.free ++ filter (λ i. not (is_one_of i l.given)) (range_with_len l.place (l.count - l.place)) ≡
    free_places l.count l.given
