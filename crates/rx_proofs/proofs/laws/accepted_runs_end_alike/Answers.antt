use Rattle.rx_proofs.proofs.Runs.{end_alike}
use Rattle.rx_proofs.proofs.laws.accepted_runs_end_alike.Goals as goal

pub returns : goal.returns
returns c = end_alike
