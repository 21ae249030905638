-- Each turn copies one more element, and in the end all are copied.
use Rattle.std.proofs.Common.{◌∙◌}
use Rattle.rx_poly.proofs.Copies.{one_copied, all_copied}
use Rattle.rx_poly.specs.declared.body.Body.{roll-Body, roll-out-Body}
use Rattle.rx_poly.specs.declared.body.Mono.{roll-Mono, roll-out-Mono}
use Rattle.rx_poly.proofs.body.+clones.Goals as goal

pub Body::try_clone-returns : goal.Body::try_clone-returns
Body::try_clone-returns t c =
    let same = c.from_vec.ensures
    ∙ all_copied c.as_slice-term-items.result.now c.loop-term.term-index c.loop-term-test.false
    c.loop-term.copies.items c.loop-term.invariant ∙ c.as_slice-term-items.ensures in
    (λ i. roll-Body (record { terms = same i })) ∙ roll-out-Body c.args.self.now

pub Mono::try_clone-returns : goal.Mono::try_clone-returns
Mono::try_clone-returns t c =
    let same = c.from_vec.ensures
    ∙ all_copied c.as_slice-atom-items.result.now c.loop-atom.atom-index c.loop-atom-test.false
    c.loop-atom.copies.items c.loop-atom.invariant ∙ c.as_slice-atom-items.ensures in
    (λ i. roll-Mono (record { atoms = same i })) ∙ roll-out-Mono c.args.self.now

pub Mono::try_clone-loop-atom-preserved : goal.Mono::try_clone-loop-atom-preserved
Mono::try_clone-loop-atom-preserved t c =
    one_copied c.as_slice-atom-items.result.now c.loop-atom.atom-index c.atom-item.result
    c.loop-atom-test.true c.atom-item.is c.loop-atom.copies.items c.push.new.self.items _
    c.loop-atom.invariant c.in_ok-try_clone.ensures c.in_ok-push.ensures.items
