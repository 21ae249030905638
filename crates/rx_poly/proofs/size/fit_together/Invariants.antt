-- What is left of the limit, with the sum and all terms, is the limit and the terms that are left.
use Rattle.std.proofs.Common.{◌≡◌, ◌+◌, drop, sum_by, ℤ}
use Rattle.rx_poly.specs.Limits.{body_size, mono_size}
use Rattle.rx_poly.specs.declared.body.Mono.{Mono}
use Rattle.rx_poly.proofs.size.fit_together.Given as goal

abbrev pub invariant-loop-term : goal.invariant-loop-term
invariant-loop-term l =
    l.left + (body_size l.sum + sum_by (λ (t : Mono × ℤ). mono_size t.0) l.terms) ≡ 4096 +
    sum_by (λ (t : Mono × ℤ). mono_size t.0) (drop l.term-index l.terms)
