-- A hypothesis isn't used, or is.
use Rattle.std.proofs.Common.{refl}
use Rattle.rx_settle.proofs.UseWalk.{begin, ended, ends, goes_on, is_past, is_within}
use Rattle.rx_settle.proofs.uses.try_uses.Goals as goal

pub loop-number-init : goal.loop-number-init
loop-number-init g c =
    record {
      solver = c.requires.solver;
      same = refl;
      using = begin c.args.by.now.rules.now c.args.state.now c.args.by.now.how;
    }

pub loop-number-preserved : goal.loop-number-preserved
loop-number-preserved g c =
    let next = goes_on c.args.by.now.rules.now c.args.state.now c.args.by.now.how c.loop-number.state
    c.loop-number.invariant.same c.loop-number.noted c.loop-number.number
    c.loop-number.invariant.using
    (is_within c.hypotheses.result.now c.args.state.now c.in_ok-count.count c.loop-number.number
    c.hypotheses.ensures c.in_ok-count.ensures c.loop-number-test.true)
    c.in_ok-try_use_sides.field-0 c.after-tried.result c.try_use_sides.new.state
    c.in_ok-try_use_sides.ensures.trial c.after-tried.ensures
    c.in-Ok.noted c.in-Ok.ensures in
    record { solver = c.in_ok-try_use_sides.ensures.solver; same = next.0; using = next.1 }

pub returns-in-Err-clause-trial : goal.returns-in-Err-clause-trial
returns-in-Err-clause-trial g c =
    ends c.args.by.now.rules.now c.args.state.now c.args.by.now.how c.loop-number.state c.loop-number.invariant.same
    c.loop-number.noted c.loop-number.number c.loop-number.invariant.using
    (is_within c.hypotheses.result.now c.args.state.now c.in_ok-count.count c.loop-number.number
    c.hypotheses.ensures c.in_ok-count.ensures c.loop-number-test.true)
    c.in_ok-try_use_sides.field-0 c.after-tried.result c.try_use_sides.new.state
    c.in_ok-try_use_sides.ensures.trial c.after-tried.ensures
    c.in-Err.taken c.in-Err.ensures

pub returns-clause-trial : goal.returns-clause-trial
returns-clause-trial g c =
    ended c.args.by.now.rules.now c.args.state.now c.args.by.now.how c.loop-number.state c.loop-number.invariant.same
    c.loop-number.noted c.loop-number.number c.loop-number.invariant.using
    (is_past c.hypotheses.result.now c.args.state.now c.in_ok-count.count c.loop-number.number
    c.hypotheses.ensures c.in_ok-count.ensures c.loop-number-test.false)
