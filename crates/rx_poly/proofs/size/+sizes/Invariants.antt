-- What has been taken from the budget is the size of the parts that were passed.
use Rattle.std.proofs.Common.{◌≡◌, ◌+◌, drop, sum_by, ℤ}
use Rattle.rx_poly.specs.Limits.{atom_size, mono_size}
use Rattle.rx_poly.specs.declared.body.Mono.{Mono}
use Rattle.rx_poly.proofs.size.+sizes.Given as goal

abbrev pub invariant-body_after-loop-term : goal.invariant-body_after-loop-term
invariant-body_after-loop-term l =
    l.left + sum_by (λ (t : Mono × ℤ). mono_size t.0) l.term-items ≡ l.budget +
    sum_by (λ (t : Mono × ℤ). mono_size t.0) (drop l.term-index l.term-items)

abbrev pub invariant-mono_after-loop-atom : goal.invariant-mono_after-loop-atom
invariant-mono_after-loop-atom l =
    l.left + (1 + sum_by atom_size l.atom-items) ≡ l.budget +
    sum_by atom_size (drop l.atom-index l.atom-items)
