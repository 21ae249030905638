use Rattle.std.proofs.Common.{◌≡◌, drop, ℤ}
use Rattle.std.specs.List.{list_any}
use Rattle.rx_poly.specs.declared.body.Mono.{Mono}
use Rattle.rx_relations.specs.Linear.{place_of}
use Rattle.rx_relations.specs.Products.{is_alone}
use Rattle.rx_relations.proofs.products.gives_a_place.Given as goal

abbrev pub invariant-loop-term : goal.invariant-loop-term
invariant-loop-term l =
    list_any (λ (t : Mono × ℤ). is_alone l.terms (place_of t)) (drop l.term-index l.terms) ≡
    list_any (λ (t : Mono × ℤ). is_alone l.terms (place_of t)) l.terms
