use Rattle.std.proofs.Common.{◌≡◌, drop, map, ℤ}
use Rattle.rx_fm.specs.Numbers.{gcd_with}
use Rattle.rx_poly.specs.declared.body.Mono.{Mono}
use Rattle.rx_relations.proofs.content.gcd_with.Given as goal

abbrev pub invariant-loop-term : goal.invariant-loop-term
invariant-loop-term l =
    gcd_with l.common (map (λ (t : Mono × ℤ). t.1) (drop l.term-index l.terms)) ≡
    gcd_with l.first (map (λ (t : Mono × ℤ). t.1) l.terms)
