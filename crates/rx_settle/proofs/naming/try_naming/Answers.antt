-- A lemma is found and its step is tried, or none is.
use Rattle.std.proofs.Common.{◌∙◌, ap, sym}
use Rattle.std.specs.Option.{option_copied}
use Rattle.rx_settle.specs.Settling.{named}
use Rattle.rx_settle.proofs.FirstLaws.{no_goal}
use Rattle.rx_settle.proofs.NamingLaws.{lemma_beyond, lemma_tried, no_lemma}
use Rattle.rx_settle.proofs.naming.try_naming.Goals as goal

pub returns-in_default-clause-trial : goal.returns-in_default-clause-trial
returns-in_default-clause-trial g c =
    no_goal (named c.args.rules.now c.args.state.now) c.args.rules.now c.args.state.now
    c.failed.result
    (sym c.first.ensures ∙ ap option_copied c.in_default.is) c.failed.ensures

pub returns-in-Ok-Some-clause-trial : goal.returns-in-Ok-Some-clause-trial
returns-in-Ok-Some-clause-trial g c =
    lemma_tried c.args.rules.now c.args.state.now c.in-Some.goal.now c.in-Some.ensures
    c.in-Ok-Some.field-0 c.in-Ok-Some.found c.step_to.result
    c.try_step.new.state c.try_step.result c.in-Ok-Some.ensures c.in-Ok-Some.field-0-is
    c.step_to.ensures.step c.try_step.ensures.trial

pub returns-in-Ok-None-clause-trial : goal.returns-in-Ok-None-clause-trial
returns-in-Ok-None-clause-trial g c =
    no_lemma c.args.rules.now c.args.state.now c.in-Some.goal.now c.in-Some.ensures
    c.in-Ok-None.field-0 c.failed-in-Ok-None.result
    c.in-Ok-None.ensures c.in-Ok-None.field-0-is c.failed-in-Ok-None.ensures

pub returns-in-Err-Large-clause-trial : goal.returns-in-Err-Large-clause-trial
returns-in-Err-Large-clause-trial g c =
    lemma_beyond c.args.rules.now c.args.state.now c.in-Some.goal.now c.in-Some.ensures
    c.in-Err-Large.field-0 c.too_large.result
    c.in-Err-Large.ensures c.in-Err-Large.field-0-is c.too_large.ensures
