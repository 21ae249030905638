use Rattle.std.proofs.Common.{◌≡◌, ◌≤ℤ◌, pos, drop, map, ℤ, unsigned_abs}
use Rattle.rx_fm.specs.Numbers.{gcd_with, sizes_fit}
use Rattle.rx_poly.specs.declared.body.Mono.{Mono}
use Rattle.rx_fm.proofs.combination.gcd_of_terms.Given as goal

abbrev pub invariant-loop-term : goal.invariant-loop-term
invariant-loop-term l =
    (pos 0 ≤ℤ l.common)
    × (sizes_fit (map (λ (t : Mono × ℤ). t.1) (drop l.term-index l.terms)) ≡
    sizes_fit (map (λ (t : Mono × ℤ). t.1) l.terms))
    × (gcd_with (unsigned_abs l.common) (map (λ (t : Mono × ℤ). t.1) (drop l.term-index l.terms)) ≡
    gcd_with (unsigned_abs l.first) (map (λ (t : Mono × ℤ). t.1) l.terms))
