-- The rows are refuted, or else both sides are shown equal.
use Rattle.rx_moves.specs.Moves.{Equal}
use Rattle.rx_moves.specs.Trying.{attempt}
use Rattle.rx_settle.proofs.TrialLaws.{taken_first, untaken_second}
use Rattle.rx_settle.proofs.deleting.try_deleting.Goals as goal

pub returns-in-Err-clause-trial : goal.returns-in-Err-clause-trial
returns-in-Err-clause-trial g c =
    taken_first c.args.rules.now c.args.state.now c.try_absurd.new.state _
    c.in_ok-try_absurd.field-0 (c.in_ok-try_absurd.ensures.trial c.args.rules.now)
    (attempt c.args.rules.now c.args.state.now Equal) c.in-Err.taken c.in-Err.ensures

pub returns-clause-trial : goal.returns-clause-trial
returns-clause-trial g c =
    untaken_second c.args.rules.now c.args.state.now c.try_absurd.new.state _
    c.in_ok-try_absurd.field-0 (c.in_ok-try_absurd.ensures.trial c.args.rules.now)
    (λ s. attempt c.args.rules.now s Equal) c.in_ok-equal.equal c.after.result c.try_equal.new.state
    c.in-Ok.noted
    c.in-Ok.ensures c.in_ok-equal.ensures.trial c.after.ensures
