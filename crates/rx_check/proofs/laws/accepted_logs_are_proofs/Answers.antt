use Rattle.rx_check.proofs.Proofs.{accepted_ends_alike, accepted_ends_equal, accepted_proof}
use Rattle.rx_check.proofs.laws.accepted_logs_are_proofs.Goals as goal

pub returns-clause-proof : goal.returns-clause-proof
returns-clause-proof c = accepted_proof

pub returns-clause-alike : goal.returns-clause-alike
returns-clause-alike c = accepted_ends_alike

pub returns-clause-equal : goal.returns-clause-equal
returns-clause-equal c = accepted_ends_equal
