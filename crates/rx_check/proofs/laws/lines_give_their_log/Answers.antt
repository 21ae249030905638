use Rattle.rx_check.proofs.LineOrder.{lines_give}
use Rattle.rx_check.proofs.laws.lines_give_their_log.Goals as goal

pub returns : goal.returns
returns c = lines_give
