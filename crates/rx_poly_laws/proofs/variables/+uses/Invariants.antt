-- None of the parts that were passed has the variable, so the rest decides.
use Rattle.std.proofs.Common.{◌≡◌, drop, ℤ}
use Rattle.std.specs.List.{list_any}
use Rattle.rx_poly.specs.declared.body.Mono.{Mono}
use Rattle.rx_poly.specs.Variables.{atom_uses, mono_uses}
use Rattle.rx_poly_laws.proofs.variables.+uses.Given as goal

abbrev pub invariant-mono_uses-loop-atom : goal.invariant-mono_uses-loop-atom
invariant-mono_uses-loop-atom l =
    list_any (atom_uses l.var) (drop l.atom-index l.atom-items) ≡
    list_any (atom_uses l.var) l.atom-items

abbrev pub invariant-body_uses-loop-term : goal.invariant-body_uses-loop-term
invariant-body_uses-loop-term l =
    list_any (λ (t : Mono × ℤ). mono_uses l.var t.0) (drop l.term-index l.term-items) ≡
    list_any (λ (t : Mono × ℤ). mono_uses l.var t.0) l.term-items
