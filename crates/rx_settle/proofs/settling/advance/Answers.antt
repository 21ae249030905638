-- What comes of the trial is recorded.
use Rattle.rx_settle.proofs.MoveLaws.{advanced_answer}
use Rattle.rx_settle.proofs.settling.advance.Goals as goal

pub returns-clause-advances : goal.returns-clause-advances
returns-clause-advances g c =
    advanced_answer c.args.rules.now c.args.state.now c.settle_once.new.state c.args.settled.now
    c.record_trial.new.settled c.in_ok-trial.trial c.in_ok-rows.rows c.record_trial.result
    c.in_ok-trial.ensures.trial c.in_ok-rows.ensures c.record_trial.ensures
