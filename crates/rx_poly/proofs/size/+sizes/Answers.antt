-- An element's size is taken from what was left.
use Rattle.std.proofs.Common.{ℤ}
use Rattle.rx_poly.specs.Limits.{atom_size, mono_size}
use Rattle.rx_poly.specs.declared.body.Mono.{Mono}
use Rattle.rx_poly.proofs.Budgets.{one_taken}
use Rattle.rx_poly.proofs.size.+sizes.Goals as goal

pub body_after-loop-term-preserved : goal.body_after-loop-term-preserved
body_after-loop-term-preserved t c =
    one_taken (λ (u : Mono × ℤ). mono_size u.0) c.as_slice-term-items.result.now
    c.loop-term.term-index c.term-item.result c.loop-term-test.true c.term-item.is
    _ _ _ _ c.loop-term.invariant c.in_ok-left.ensures.0 c.in_ok-left.ensures.1

pub mono_after-loop-atom-preserved : goal.mono_after-loop-atom-preserved
mono_after-loop-atom-preserved t c =
    one_taken atom_size c.as_slice-atom-items.result.now c.loop-atom.atom-index
    c.atom-item.result c.loop-atom-test.true c.atom-item.is _ _ _ _ c.loop-atom.invariant
    c.in_ok-left-2.ensures.0 c.in_ok-left-2.ensures.1
