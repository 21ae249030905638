-- What came of the step where the goal is alone.
use Rattle.rx_lemma.specs.Lemmas.{found_as}
use Rattle.rx_find_lemmas.proofs.Trying.{tried_alone}
use Rattle.rx_find_lemmas.proofs.finding.try_general.Goals as goal

pub returns-clause-trial : goal.returns-clause-trial
returns-clause-trial g c =
    tried_alone c.args.rules.now c.args.goal.now (found_as c.args.general) c.in_ok-state.state
    c.try_step.new.state c.in_ok-copy.copy c.bare_step.result c.try_step.result
    c.in_ok-state.ensures c.in_ok-copy.ensures c.bare_step.ensures c.try_step.ensures.trial
