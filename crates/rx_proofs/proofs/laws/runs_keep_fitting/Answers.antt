use Rattle.rx_proofs.proofs.Runs.{goals_left_fit, kept_hypotheses_fit}
use Rattle.rx_proofs.proofs.laws.runs_keep_fitting.Goals as goal

pub returns-clause-goals : goal.returns-clause-goals
returns-clause-goals c = goals_left_fit

pub returns-clause-hypotheses : goal.returns-clause-hypotheses
returns-clause-hypotheses c = kept_hypotheses_fit
