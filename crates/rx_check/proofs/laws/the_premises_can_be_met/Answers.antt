use Rattle.rx_check.proofs.Logs.{example_has_log}
use Rattle.rx_check.proofs.laws.the_premises_can_be_met.Goals as goal

pub returns : goal.returns
returns c = example_has_log
