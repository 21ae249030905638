use Rattle.std.proofs.Common.{◌≡◌, ◌++◌, drop, map, ℤ, pos}
use Rattle.rx_poly.specs.Value.{quotient}
use Rattle.rx_poly.specs.declared.body.Mono.{Mono}
use Rattle.rx_relations.proofs.content.divided_terms.Given as goal

abbrev pub invariant-loop-term : goal.invariant-loop-term
invariant-loop-term l =
    l.made ++ map (λ (t : Mono × ℤ). (t.0, quotient t.1 (pos l.by))) (drop l.term-index l.terms) ≡
    map (λ (t : Mono × ℤ). (t.0, quotient t.1 (pos l.by))) l.terms
