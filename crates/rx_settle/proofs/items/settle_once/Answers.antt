-- What is known is made, or else hypotheses and results are tried.
use Rattle.rx_settle.proofs.ItemLaws.{known_first, trial_keeps, uses_second}
use Rattle.rx_settle.proofs.items.settle_once.Goals as goal

pub returns-in-Err-clause-trial : goal.returns-in-Err-clause-trial
returns-in-Err-clause-trial g c =
    known_first c.args.rules.now c.args.state.now c.try_known.new.state
    c.in_ok-try_known.field-0 c.in_ok-try_known.ensures.trial c.in-Err.taken
    c.in-Err.ensures

pub returns-in-Err-clause-hypotheses : goal.returns-in-Err-clause-hypotheses
returns-in-Err-clause-hypotheses g c =
    trial_keeps c.args.rules.now c.args.state.now c.try_known.new.state c.in-Err.taken
    (returns-in-Err-clause-trial g c)

pub returns-clause-trial : goal.returns-clause-trial
returns-clause-trial g c =
    uses_second c.args.rules.now c.args.state.now c.try_known.new.state
    c.in_ok-try_known.field-0 c.in_ok-try_known.ensures.trial
    c.in_ok-later.later c.after.result c.try_from_uses.new.state c.in-Ok.noted c.in-Ok.ensures
    c.in_ok-later.ensures.trial c.after.ensures

pub returns-clause-hypotheses : goal.returns-clause-hypotheses
returns-clause-hypotheses g c =
    trial_keeps c.args.rules.now c.args.state.now c.try_from_uses.new.state c.after.result
    (returns-clause-trial g c)
