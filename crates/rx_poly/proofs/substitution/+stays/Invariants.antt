-- The parts that were passed stay, so the rest decides.
use Rattle.std.proofs.Common.{◌≡◌, drop, ℤ}
use Rattle.std.specs.List.{list_all}
use Rattle.rx_poly.specs.Replacements.{replacements, atom_stays, mono_stays}
use Rattle.rx_poly.specs.declared.body.Mono.{Mono}
use Rattle.rx_poly.proofs.substitution.+stays.Given as goal

abbrev pub invariant-body_stays-loop-term : goal.invariant-body_stays-loop-term
invariant-body_stays-loop-term l =
    list_all (λ (t : Mono × ℤ). mono_stays (replacements l.with) t.0) (drop l.term-index l.term-items)
    ≡ list_all (λ (t : Mono × ℤ). mono_stays (replacements l.with) t.0) l.term-items

abbrev pub invariant-mono_stays-loop-atom : goal.invariant-mono_stays-loop-atom
invariant-mono_stays-loop-atom l =
    list_all (atom_stays (replacements l.with)) (drop l.atom-index l.atom-items) ≡
    list_all (atom_stays (replacements l.with)) l.atom-items
