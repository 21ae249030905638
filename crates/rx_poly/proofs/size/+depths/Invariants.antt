-- The parts that were passed keep the limit, so the rest decides.
use Rattle.std.proofs.Common.{◌≡◌, nat_le, drop, ℤ}
use Rattle.rx_poly.specs.Limits.{greatest, atom_depth, mono_depth}
use Rattle.rx_poly.specs.declared.body.Mono.{Mono}
use Rattle.rx_poly.proofs.size.+depths.Given as goal

abbrev pub invariant-body_fits_in-loop-term : goal.invariant-body_fits_in-loop-term
invariant-body_fits_in-loop-term l =
    nat_le (greatest (λ (t : Mono × ℤ). mono_depth t.0) (drop l.term-index l.term-items)) l.limit
    ≡ nat_le (greatest (λ (t : Mono × ℤ). mono_depth t.0) l.term-items) l.limit

abbrev pub invariant-mono_fits_in-loop-atom : goal.invariant-mono_fits_in-loop-atom
invariant-mono_fits_in-loop-atom l =
    nat_le (greatest atom_depth (drop l.atom-index l.atom-items)) l.limit ≡
    nat_le (greatest atom_depth l.atom-items) l.limit
