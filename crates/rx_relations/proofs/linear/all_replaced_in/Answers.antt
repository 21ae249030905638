-- One place after the other.
use Rattle.std.proofs.lemmas.Result.{err_from_is_err_and}
use Rattle.rx_plain.proofs.FoldedInOrder.{after_step, no_step}
use Rattle.rx_relations.proofs.linear.all_replaced_in.Goals as goal

pub returns-in_err-relation-2 : goal.returns-in_err-relation-2
returns-in_err-relation-2 c =
    let p = err_from_is_err_and c.from_residual-in_err-relation-2.result
    c.from_residual-in_err-relation-2.ensures.1 in
    rw (p.1, p.2) (λ h. no_step c.args.with.now c.loop-pair.pair-index c.loop-pair-test.true
    c.pair-item.is c.loop-pair.invariant (c.in_err-relation-2.ensures h))

pub loop-pair-preserved : goal.loop-pair-preserved
loop-pair-preserved c =
    after_step c.args.with.now c.loop-pair.pair-index c.loop-pair-test.true c.pair-item.is
    c.loop-pair.invariant c.in_ok-relation-2.ensures.0 c.in_ok-relation-2.ensures.1
