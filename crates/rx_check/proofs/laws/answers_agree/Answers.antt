use Rattle.rx_check.proofs.Pairs.{one_known}
use Rattle.rx_check.proofs.laws.answers_agree.Goals as goal

pub returns : goal.returns
returns c = one_known
