-- The variables so far, and of the parts that are left, are those of all.
use Rattle.std.proofs.Common.{◌≡◌, ◌++◌, drop, ℤ}
use Rattle.std.specs.List.{flat_map}
use Rattle.rx_poly.specs.declared.body.Mono.{Mono}
use Rattle.rx_poly.specs.Variables.{atom_variables, mono_variables}
use Rattle.rx_poly_laws.proofs.variables.+listing.Given as goal

abbrev pub invariant-push_mono-loop-atom : goal.invariant-push_mono-loop-atom
invariant-push_mono-loop-atom l =
    l.found.items ++ flat_map atom_variables (drop l.atom-index l.atom-items) ≡
    l.initial.found.items ++ flat_map atom_variables l.atom-items

abbrev pub invariant-push_body-loop-term : goal.invariant-push_body-loop-term
invariant-push_body-loop-term l =
    l.found.items ++ flat_map (λ (t : Mono × ℤ). mono_variables t.0)
    (drop l.term-index l.term-items)
    ≡ l.initial.found.items ++ flat_map (λ (t : Mono × ℤ). mono_variables t.0) l.term-items
