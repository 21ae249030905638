-- Hypotheses, or else results.
use Rattle.rx_settle.specs.AtFirst.{using_all}
use Rattle.rx_settle.specs.Settling.{by_results}
use Rattle.rx_settle.specs.declared.uses.Matching.TheVariants.{PartAlone}
use Rattle.rx_settle.proofs.FirstLaws.{first_of_both, second_of_both}
use Rattle.rx_settle.proofs.items.try_from_uses.Goals as goal

pub returns-in-Err-clause-trial : goal.returns-in-Err-clause-trial
returns-in-Err-clause-trial g c =
    first_of_both c.args.rules.now c.args.state.now c.try_uses.new.state
    (using_all c.args.rules.now c.args.state.now PartAlone) (λ s. by_results c.args.rules.now s)
    c.in_ok-try_uses.field-0 c.in_ok-try_uses.ensures.trial c.in-Err.taken c.in-Err.ensures

pub returns-clause-trial : goal.returns-clause-trial
returns-clause-trial g c =
    second_of_both c.args.rules.now c.args.state.now c.try_uses.new.state
    (using_all c.args.rules.now c.args.state.now PartAlone) (λ s. by_results c.args.rules.now s)
    c.in_ok-try_uses.field-0 c.in_ok-try_uses.ensures.trial c.in_ok-results.results c.after.result
    c.try_results.new.state c.in-Ok.noted
    c.in-Ok.ensures c.in_ok-results.ensures.trial c.after.ensures
