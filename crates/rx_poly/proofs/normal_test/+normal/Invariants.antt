-- The parts that were passed are normal, so the rest decides.
use Rattle.std.proofs.Common.{◌≡◌, ◌&&◌, drop, ℤ}
use Rattle.std.specs.List.{list_all}
use Rattle.rx_poly.specs.Limits.{fits_i128}
use Rattle.rx_poly.specs.Normal.{is_normal_atom, is_normal_mono}
use Rattle.rx_poly.specs.declared.body.Mono.{Mono}
use Rattle.rx_poly.proofs.normal_test.+normal.Given as goal

abbrev pub invariant-body_is_normal-loop-term : goal.invariant-body_is_normal-loop-term
invariant-body_is_normal-loop-term l =
    list_all (λ (t : Mono × ℤ). is_normal_mono t.0 && fits_i128 t.1)
    (drop l.term-index l.term-items)
    ≡ list_all (λ (t : Mono × ℤ). is_normal_mono t.0 && fits_i128 t.1) l.term-items

abbrev pub invariant-mono_is_normal-loop-atom : goal.invariant-mono_is_normal-loop-atom
invariant-mono_is_normal-loop-atom l =
    list_all is_normal_atom (drop l.atom-index l.atom-items) ≡ list_all is_normal_atom l.atom-items
