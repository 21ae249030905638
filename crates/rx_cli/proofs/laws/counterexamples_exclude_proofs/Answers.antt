use Rattle.rx_cli.proofs.Refuted.{never_both}
use Rattle.rx_cli.proofs.laws.counterexamples_exclude_proofs.Goals as goal

pub returns : goal.returns
returns c = λ f source plain. never_both f source plain
