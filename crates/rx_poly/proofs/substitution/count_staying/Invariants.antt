-- The terms that were passed stay, so those at the front of the rest are counted after them.
use Rattle.std.proofs.Common.{◌≡◌, ◌+◌, drop, ℤ}
use Rattle.std.specs.List.{prefix_len}
use Rattle.rx_poly.specs.Replacements.{replacements, mono_stays}
use Rattle.rx_poly.specs.declared.body.Mono.{Mono}
use Rattle.rx_poly.proofs.substitution.count_staying.Given as goal

abbrev pub invariant-loop-term : goal.invariant-loop-term
invariant-loop-term l =
    (l.count ≡ l.term-index) ×
    (l.count + prefix_len (λ (t : Mono × ℤ). mono_stays (replacements l.with) t.0)
    (drop l.term-index l.terms) ≡
    prefix_len (λ (t : Mono × ℤ). mono_stays (replacements l.with) t.0) l.terms)
