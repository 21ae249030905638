-- What is shown is taken.
use Rattle.rx_settle.proofs.TryingLaws.{answer_failed, answer_large, answer_taken}
use Rattle.rx_settle.proofs.trying.try_step.Goals as goal

pub returns-in-Ok-Shown-clause-trial : goal.returns-in-Ok-Shown-clause-trial
returns-in-Ok-Shown-clause-trial g c =
    answer_taken c.args.rules.now c.args.state.now c.args.step c.in-Ok-Shown.field-0
    c.in-Ok-Shown.ensures.outcome
    c.in-Ok-Shown.made c.in-Ok-Shown.certs c.take_shown.new.state c.with_certificates.result
    c.take_shown.result
    c.in-Ok-Shown.field-0-is c.requires.rows c.with_certificates.ensures c.take_shown.ensures.ok
    c.take_shown.ensures.trial

pub returns-in-Ok-Fails-clause-trial : goal.returns-in-Ok-Fails-clause-trial
returns-in-Ok-Fails-clause-trial g c =
    answer_failed c.args.rules.now c.args.state.now c.args.step c.in-Ok-Fails.field-0
    c.in-Ok-Fails.ensures.outcome
    c.dropped.result c.failed.result c.in-Ok-Fails.field-0-is c.dropped.ensures c.failed.ensures

pub returns-in-Ok-TooLarge-clause-trial : goal.returns-in-Ok-TooLarge-clause-trial
returns-in-Ok-TooLarge-clause-trial g c =
    answer_large c.args.rules.now c.args.state.now c.args.step c.in-Ok-TooLarge.field-0
    c.in-Ok-TooLarge.ensures.outcome
    c.dropped-in-Ok-TooLarge.result c.too_large.result c.in-Ok-TooLarge.field-0-is
    c.dropped-in-Ok-TooLarge.ensures c.too_large.ensures
