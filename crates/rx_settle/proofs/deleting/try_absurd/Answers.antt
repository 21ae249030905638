-- The solver's answer decides.
use Rattle.std.proofs.Common.{◌∙◌, ap, sym}
use Rattle.std.specs.Option.{option_copied}
use Rattle.rx_settle.proofs.DeletingLaws.{absurd_beyond, absurd_fails, absurd_nowhere, absurd_taken}
use Rattle.rx_settle.proofs.TrialLaws.{failed_trial}
use Rattle.rx_settle.proofs.deleting.try_absurd.Goals as goal

pub returns-in_default-clause-trial : goal.returns-in_default-clause-trial
returns-in_default-clause-trial g c parts =
    failed_trial parts c.args.state.now _ c.failed.result
    (absurd_nowhere parts c.args.state.now
    (sym c.first.ensures ∙ ap option_copied c.in_default.is)) c.failed.ensures

pub returns-in-Ok-Some-clause-trial : goal.returns-in-Ok-Some-clause-trial
returns-in-Ok-Some-clause-trial g c =
    absurd_taken c.args.state.now c.in-Some.goal.now c.in-Ok-Some.field-0 c.in-Ok-Some.cert
    c.make_nothing.result c.take_shown.new.state c.take_shown.result
    c.in-Some.ensures c.in-Ok-Some.ensures.answer c.in-Ok-Some.field-0-is c.make_nothing.ensures
    c.take_shown.ensures.ok c.take_shown.ensures.trial

pub returns-in-Ok-None-clause-trial : goal.returns-in-Ok-None-clause-trial
returns-in-Ok-None-clause-trial g c parts =
    absurd_fails parts c.args.state.now c.in-Some.goal.now c.in-Some.ensures c.in-Ok-None.field-0
    c.failed-in-Ok-None.result
    c.in-Ok-None.ensures.answer c.in-Ok-None.field-0-is c.failed-in-Ok-None.ensures

pub returns-in-Err-Large-clause-trial : goal.returns-in-Err-Large-clause-trial
returns-in-Err-Large-clause-trial g c parts =
    absurd_beyond parts c.args.state.now c.in-Some.goal.now c.in-Some.ensures c.in-Err-Large.field-0
    c.too_large.result
    c.in-Err-Large.ensures.answer c.in-Err-Large.field-0-is c.too_large.ensures
