-- The outcome of the step is that of its check.
use Rattle.std.proofs.Common.{◌≡◌, ◌∙◌, ap, sym, subst, Result}
use Rattle.rx_inference.specs.States.{State, applied}
use Rattle.rx_log.specs.Acceptance.{after_step}
use Rattle.rx_check.specs.Answers.{of_step_outcome}
use Rattle.rx_check.specs.LineByLine.{IsFailureOf}
use Rattle.rx_check.specs.declared.check_end.CheckEnd.{CheckEnd}
use Rattle.rx_check.proofs.LineAnswers.{so_on_error, step_found, step_keeps_roots, unmade_kept}
use Rattle.rx_check.proofs.LineFaults.{ends_of}
use Rattle.rx_check.proofs.progress.Progress.take_counted.Goals as goal

pub returns-clause-ends : goal.returns-clause-ends
returns-clause-ends c =
    let number = c.args.self.now.steps in
    let new : State = c.apply_owned-outcome.new.state in
    ends_of new (after_step number (applied c.args.rules.now c.args.self.now.state c.args.step))
    (of_step_outcome number c.apply_owned-outcome.result) c.in_ok-failure.failure
    (subst (λ (o : Result (Unit {0}) CheckEnd). IsFailureOf o c.in_ok-failure.failure)
    c.step_outcome.ensures c.in_ok-failure.ensures.ok)
    (step_found number new c.apply_owned-outcome.result
    (applied c.args.rules.now c.args.self.now.state c.args.step)
    c.apply_owned-outcome.ensures.answer)

pub returns-clause-roots : goal.returns-clause-roots
returns-clause-roots c =
    step_keeps_roots c.args.rules.now c.args.self.now.steps c.args.self.now.state
    c.apply_owned-outcome.new.state c.args.step c.apply_owned-outcome.result
    c.apply_owned-outcome.ensures.answer c.apply_owned-outcome.ensures.kept c.requires.roots

pub returns-in_err-failure-clause-err : goal.returns-in_err-failure-clause-err
returns-in_err-failure-clause-err c =
    let old = c.args.self.now in
    so_on_error c.from_residual-in_err-failure.result
    (record old { state = c.apply_owned-outcome.new.state } ≡ old)
    (ap (λ (s : State). record old { state = s })
    (unmade_kept old.steps old.state c.apply_owned-outcome.new.state
    c.apply_owned-outcome.result (sym c.step_outcome.ensures ∙ c.in_err-failure.ensures.err)
    c.apply_owned-outcome.ensures.kept))

pub returns-in_err-failure-clause-roots : goal.returns-in_err-failure-clause-roots
returns-in_err-failure-clause-roots c =
    step_keeps_roots c.args.rules.now c.args.self.now.steps c.args.self.now.state
    c.apply_owned-outcome.new.state c.args.step c.apply_owned-outcome.result
    c.apply_owned-outcome.ensures.answer c.apply_owned-outcome.ensures.kept c.requires.roots
