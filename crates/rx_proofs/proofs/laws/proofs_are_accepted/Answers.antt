use Rattle.rx_proofs.proofs.Runs.{proof_accepted, proof_ends_alike}
use Rattle.rx_proofs.proofs.laws.proofs_are_accepted.Goals as goal

pub returns-clause-accepted : goal.returns-clause-accepted
returns-clause-accepted c = proof_accepted

pub returns-clause-alike : goal.returns-clause-alike
returns-clause-alike c = proof_ends_alike
