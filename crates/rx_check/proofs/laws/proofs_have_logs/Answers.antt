use Rattle.rx_check.proofs.Logs.{inside_proof_has_log, plain_proof_has_log}
use Rattle.rx_check.proofs.laws.proofs_have_logs.Goals as goal

pub returns-clause-plain : goal.returns-clause-plain
returns-clause-plain c = plain_proof_has_log

pub returns-clause-inside : goal.returns-clause-inside
returns-clause-inside c = inside_proof_has_log
