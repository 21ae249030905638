-- One column after the other.
use Rattle.std.proofs.Common.{arith}
use Rattle.std.proofs.lemmas.Result.{err_from_is_err_and}
use Rattle.rx_pairs.specs.Lowering.{lower_rows}
use Rattle.rx_pairs.proofs.Asking.{after_hold, beyond_hold, ended, left_ends, no_column, right_ends}
use Rattle.rx_pairs.proofs.lower.asked_rows.Goals as goal

pub returns-in_default : goal.returns-in_default
returns-in_default c =
    ended c.loop-number.rows.items (lower_rows c.args.pair.now c.loop-number.number
    c.loop-number.rest.now c.loop-number.others.now)
    (lower_rows c.args.pair.now c.args.column c.args.left.now c.args.right.now)
    (left_ends c.args.pair.now c.loop-number.number c.loop-number.rest.now c.loop-number.others.now
    (no_column c.loop-number.rest.now c.in_default.ensures.cases))
    c.loop-number.invariant

pub returns-in_default-split_first : goal.returns-in_default-split_first
returns-in_default-split_first c =
    ended c.loop-number.rows.items (lower_rows c.args.pair.now c.loop-number.number
    c.loop-number.rest.now c.loop-number.others.now)
    (lower_rows c.args.pair.now c.args.column c.args.left.now c.args.right.now)
    (right_ends c.args.pair.now c.loop-number.number c.loop-number.rest.now c.loop-number.others.now
    (no_column c.loop-number.others.now c.in_default-split_first.ensures.cases))
    c.loop-number.invariant

pub returns-in_err-push_hold : goal.returns-in_err-push_hold
returns-in_err-push_hold c =
    let some = c.loop-number-test.true in
    let p = err_from_is_err_and c.from_residual-in_err-push_hold.result
    c.from_residual-in_err-push_hold.ensures.1 in
    rw (p.1, p.2) (λ large. beyond_hold c.args.pair.now c.loop-number.rest.now
    c.loop-number.others.now c.in-Some.here.now c.in-Some-split_first.there.now
    c.in-Some.more.now c.in-Some-split_first.further.now c.in-Some.ensures.cases.0
    c.in-Some-split_first.ensures.cases.0
    c.loop-number.rows.items (lower_rows c.args.pair.now c.args.column c.args.left.now
    c.args.right.now) c.loop-number.number
    (λ none. omega (arith, none, some)) c.if-number-eq1.false c.loop-number.invariant
    (c.in_err-push_hold.ensures large))

pub loop-number-preserved : goal.loop-number-preserved
loop-number-preserved c =
    let some = c.loop-number-test.true in
    after_hold c.args.pair.now c.loop-number.rest.now c.loop-number.others.now c.in-Some.here.now
    c.in-Some-split_first.there.now
    c.in-Some.more.now c.in-Some-split_first.further.now c.in-Some.ensures.cases.0
    c.in-Some-split_first.ensures.cases.0
    c.loop-number.rows.items (lower_rows c.args.pair.now c.args.column c.args.left.now
    c.args.right.now) c.loop-number.number
    (λ none. omega (arith, none, some)) c.if-number-eq1.false c.loop-number.invariant
    c.push_hold.new.rows.items c.in_ok-push_hold.ensures.0 c.in_ok-push_hold.ensures.1
