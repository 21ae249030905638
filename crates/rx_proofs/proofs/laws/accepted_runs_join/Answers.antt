use Rattle.rx_proofs.proofs.Runs.{backed, made_join, start_joins}
use Rattle.rx_proofs.proofs.laws.accepted_runs_join.Goals as goal

pub returns-clause-goal : goal.returns-clause-goal
returns-clause-goal c = start_joins

pub returns-clause-made : goal.returns-clause-made
returns-clause-made c = made_join

pub returns-clause-backed : goal.returns-clause-backed
returns-clause-backed c = backed
