use Rattle.rx_proofs.proofs.Runs.{goals_left_inside, hypotheses_kept_inside}
use Rattle.rx_proofs.proofs.laws.runs_stay_inside.Goals as goal

pub returns-clause-goals : goal.returns-clause-goals
returns-clause-goals c = goals_left_inside

pub returns-clause-hypotheses : goal.returns-clause-hypotheses
returns-clause-hypotheses c = hypotheses_kept_inside
