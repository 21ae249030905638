-- What is known of the first goal is made.
use Rattle.std.proofs.Common.{◌∙◌, subst, sym}
use Rattle.rx_settle.specs.AtFirst.{before_uses}
use Rattle.rx_settle.specs.Known.{IsKnown}
use Rattle.rx_settle.proofs.FirstLaws.{no_goal}
use Rattle.rx_settle.proofs.items.try_known.Goals as goal

pub returns-in_default-clause-trial : goal.returns-in_default-clause-trial
returns-in_default-clause-trial g c =
    no_goal (before_uses c.args.rules.now c.args.state.now) c.args.rules.now c.args.state.now
    c.failed.result (sym c.in_ok-goal.ensures ∙ c.in_default.is) c.failed.ensures

pub returns-clause-trial : goal.returns-clause-trial
returns-clause-trial g c =
    let rules = c.args.rules.now in
    c.make.ensures.trial rules c.in-Some.goal (sym c.in-Some.is ∙ c.in_ok-goal.ensures)
    (subst (IsKnown rules c.in-Some.goal) (sym c.get.ensures) c.in_ok-known.ensures.found)
