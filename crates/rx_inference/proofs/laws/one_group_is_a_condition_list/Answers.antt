use Rattle.rx_inference.proofs.JudgingLaws.{one_group}
use Rattle.rx_inference.proofs.laws.one_group_is_a_condition_list.Goals as goal

pub returns : goal.returns
returns c = one_group
