-- There is a goal, and a variable for what comes of it.
use Rattle.std.proofs.Common.{◌∙◌, ap, sym}
use Rattle.std.specs.Option.{option_copied}
use Rattle.rx_settle.specs.Settling.{by_results}
use Rattle.rx_settle.proofs.FirstLaws.{no_goal}
use Rattle.rx_settle.proofs.ResultLaws.{results_above, results_tried}
use Rattle.rx_settle.proofs.results.try_results.Goals as goal

pub returns-in_default-clause-trial : goal.returns-in_default-clause-trial
returns-in_default-clause-trial g c =
    no_goal (by_results c.args.rules.now c.args.state.now) c.args.rules.now c.args.state.now
    c.failed.result (sym c.first.ensures ∙ ap option_copied c.in_default.is) c.failed.ensures

pub returns-then-not-has_fresh_variable-clause-trial :
    goal.returns-then-not-has_fresh_variable-clause-trial
returns-then-not-has_fresh_variable-clause-trial g c =
    results_above c.args.rules.now c.args.state.now c.in-Some.goal.now
    c.failed-then-not-has_fresh_variable.result c.in-Some.ensures
    (sym c.has_fresh_variable.ensures ∙ c.if-not-has_fresh_variable.true)
    c.failed-then-not-has_fresh_variable.ensures

pub returns-clause-trial : goal.returns-clause-trial
returns-clause-trial g c =
    results_tried c.args.rules.now c.args.state.now c.in-Some.goal.now c.in_ok-suffix.suffix
    c.try_suffix.new.state c.in_ok-trial.trial c.after.result
    (sym c.has_fresh_variable.ensures ∙ c.if-not-has_fresh_variable.false)
    c.in_ok-suffix.ensures.common c.in_ok-suffix.ensures.left c.in_ok-suffix.ensures.right
    c.in_ok-trial.ensures.trial c.after.ensures c.in-Some.ensures
