use Rattle.std.proofs.Common.{◌≡◌, ◌++◌, drop, map, ℤ}
use Rattle.rx_poly.specs.Value.{quotient}
use Rattle.rx_poly.specs.declared.body.Mono.{Mono}
use Rattle.rx_fm.proofs.combination.divided_terms.Given as goal

abbrev pub invariant-loop-term : goal.invariant-loop-term
invariant-loop-term l =
    l.made ++ map (λ (t : Mono × ℤ). (t.0, quotient t.1 l.by)) (drop l.term-index l.terms) ≡
    map (λ (t : Mono × ℤ). (t.0, quotient t.1 l.by)) l.terms
