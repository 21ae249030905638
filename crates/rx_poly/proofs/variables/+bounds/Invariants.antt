-- The greatest so far and of the parts that are left is that of all.
use Rattle.std.proofs.Common.{◌≡◌, drop, max, ℤ}
use Rattle.rx_poly.specs.Limits.{greatest}
use Rattle.rx_poly.specs.declared.body.Mono.{Mono}
use Rattle.rx_poly.specs.Variables.{atom_bound, mono_bound}
use Rattle.rx_poly.proofs.variables.+bounds.Given as goal

abbrev pub invariant-mono_bound-loop-atom : goal.invariant-mono_bound-loop-atom
invariant-mono_bound-loop-atom l =
    max l.bound (greatest atom_bound (drop l.atom-index l.atom-items)) ≡
    greatest atom_bound l.atom-items

abbrev pub invariant-body_bound-loop-term : goal.invariant-body_bound-loop-term
invariant-body_bound-loop-term l =
    max l.bound (greatest (λ (t : Mono × ℤ). mono_bound t.0) (drop l.term-index l.term-items)) ≡
    greatest (λ (t : Mono × ℤ). mono_bound t.0) l.term-items
