use Rattle.rx_check.proofs.Pairs.{one_verdict}
use Rattle.rx_check.proofs.laws.each_log_has_one_verdict.Goals as goal

pub returns : goal.returns
returns c = one_verdict
