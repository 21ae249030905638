-- Each turn takes the first term of one sum, or of both; what is left still adds up to the whole.
use Rattle.std.proofs.lemmas.Result.{err_from_is_err_and}
use Rattle.rx_poly.proofs.Merging.{begin, after_last, after_left, after_right, after_both, no_sum, no_right}
use Rattle.rx_poly.proofs.merge.merge.Goals as goal

pub loop-t-init : goal.loop-t-init
loop-t-init c =
    rw c.in_ok-sum.ensures (begin c.args.sign c.args.left.now c.args.right.now c.requires.left
    c.requires.right)

pub loop-t-preserved-in_default-split_first : goal.loop-t-preserved-in_default-split_first
loop-t-preserved-in_default-split_first c =
    after_last c.args.sign c.loop-t.us.now c.in-Some.ensures.cases.0 c.loop-t.invariant
    c.in_default-split_first.ensures.cases c.in_ok-push_term.ensures

pub loop-t-preserved-in-Less : goal.loop-t-preserved-in-Less
loop-t-preserved-in-Less c =
    after_left c.args.sign c.loop-t.us.now c.in-Some.ensures.cases.0 c.loop-t.invariant
    c.in-Some-split_first.ensures.cases.0 c.in-Less.ensures c.in_ok-push_term-in-Less.ensures

pub returns-in_err-push_sum-in-Equal : goal.returns-in_err-push_sum-in-Equal
returns-in_err-push_sum-in-Equal c =
    let p = err_from_is_err_and c.from_residual-in_err-push_sum-in-Equal.result
    c.from_residual-in_err-push_sum-in-Equal.ensures.1 in
    rw (p.1, p.2) (λ h. no_sum c.args.sign c.loop-t.us.now c.in-Some.ensures.cases.0
    c.loop-t.invariant c.in-Some-split_first.ensures.cases.0 c.in-Equal.ensures
    (c.in_err-push_sum-in-Equal.ensures h))

pub loop-t-preserved-in-Equal : goal.loop-t-preserved-in-Equal
loop-t-preserved-in-Equal c =
    after_both c.args.sign c.loop-t.us.now c.in-Some.ensures.cases.0 c.loop-t.invariant
    c.in-Some-split_first.ensures.cases.0 c.in-Equal.ensures
    c.in_ok-push_sum-in-Equal.ensures.1 c.in_ok-push_sum-in-Equal.ensures.0

pub returns-in_err-push_signed-in-Greater : goal.returns-in_err-push_signed-in-Greater
returns-in_err-push_signed-in-Greater c =
    let p = err_from_is_err_and c.from_residual-in_err-push_signed-in-Greater.result
    c.from_residual-in_err-push_signed-in-Greater.ensures.1 in
    rw (p.1, p.2) (λ h. no_right c.args.sign c.loop-t.us.now c.in-Some.ensures.cases.0
    c.loop-t.invariant c.in-Some-split_first.ensures.cases.0 c.in-Greater.ensures
    (c.in_err-push_signed-in-Greater.ensures h))

pub loop-t-preserved : goal.loop-t-preserved
loop-t-preserved c =
    after_right c.args.sign c.loop-t.us.now c.in-Some.ensures.cases.0 c.loop-t.invariant
    c.in-Some-split_first.ensures.cases.0 c.in-Greater.ensures
    c.in_ok-push_signed-in-Greater.ensures.1 c.in_ok-push_signed-in-Greater.ensures.0
