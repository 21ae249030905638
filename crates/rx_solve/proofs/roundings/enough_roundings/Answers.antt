-- Each row adds its roundings; the walk ends where there are 64, or with the rows.
use Rattle.std.proofs.Common.{subst, arith, drop, drop_of_length-le}
use Rattle.std.proofs.lemmas.Result.{err_from_is_err_and}
use Rattle.rx_solve.proofs.RoundingWalk.{Rounded, after_row, all_rounded, beyond_here, enough}
use Rattle.rx_solve.proofs.roundings.enough_roundings.Goals as goal

pub returns-then-len-ge-MOST_ROUNDINGS : goal.returns-then-len-ge-MOST_ROUNDINGS
returns-then-len-ge-MOST_ROUNDINGS c =
    enough c.args.rows.now c.loop-at.found.items c.loop-at.at (drop c.loop-at.at c.args.rows.now)
    (omega arith) c.loop-at.invariant

pub returns-in_err-push_roundings : goal.returns-in_err-push_roundings
returns-in_err-push_roundings c =
    let p = err_from_is_err_and c.from_residual.result c.from_residual.ensures.1 in
    rw (p.1, p.2) (λ h. beyond_here c.args.rows.now c.loop-at.found.items c.loop-at.at
    c.index-rows-at.result c.loop-at-test.true c.index-rows-at.is (omega arith)
    c.loop-at.invariant (c.in_err-push_roundings.ensures h))

pub loop-at-preserved : goal.loop-at-preserved
loop-at-preserved c =
    after_row c.args.rows.now c.loop-at.found.items c.loop-at.at c.index-rows-at.result
    c.loop-at-test.true c.index-rows-at.is (omega arith) c.loop-at.invariant
    c.in_ok-push_roundings.ensures.0 c.in_ok-push_roundings.ensures.1

pub returns : goal.returns
returns c =
    all_rounded c.args.rows.now c.loop-at.found.items c.loop-at.at
    (subst (Rounded c.args.rows.now c.loop-at.found.items c.loop-at.at)
    (drop_of_length-le c.args.rows.now c.loop-at-test.false) c.loop-at.invariant)
