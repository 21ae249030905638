-- A step is tried, or none.
use Rattle.rx_settle.proofs.CandidateLaws.{use_beyond, use_fails, use_tried}
use Rattle.rx_settle.proofs.uses.try_use.Goals as goal

pub returns-in-Use-clause-trial : goal.returns-in-Use-clause-trial
returns-in-Use-clause-trial g c =
    use_tried c.args.by.now c.args.state.now c.args.number c.args.side c.in_ok-place.field-0
    c.in_ok-place.ensures.candidate
    c.in-Use.place c.in-Use.subst c.try_step.new.state c.try_step.result c.in-Use.is
    c.try_step.ensures.trial

pub returns-in-Fails-clause-trial : goal.returns-in-Fails-clause-trial
returns-in-Fails-clause-trial g c =
    use_fails c.args.by.now c.args.state.now c.args.number c.args.side c.in_ok-place.field-0
    c.in_ok-place.ensures.candidate
    c.failed.result c.in-Fails.is c.failed.ensures

pub returns-in-TooLarge-clause-trial : goal.returns-in-TooLarge-clause-trial
returns-in-TooLarge-clause-trial g c =
    use_beyond c.args.by.now c.args.state.now c.args.number c.args.side c.in_ok-place.field-0
    c.in_ok-place.ensures.candidate
    c.too_large.result c.in-TooLarge.is c.too_large.ensures
