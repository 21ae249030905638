-- The certificate is built phase by phase; what a certificate refutes no integers meet.
use Rattle.rx_solve.proofs.Found.{refuted_has_certificate, refuted_is_met_by_none}
use Rattle.rx_solve.proofs.laws.refuted_rows_have_a_certificate.Goals as goal

pub returns-clause-certificate : goal.returns-clause-certificate
returns-clause-certificate c = refuted_has_certificate

pub returns-clause-unmet : goal.returns-clause-unmet
returns-clause-unmet c = refuted_is_met_by_none
