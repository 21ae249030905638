use Rattle.rx_term.proofs.TogetherLaws.{of_either_list}
use Rattle.rx_term.proofs.laws.two_lists_step_as_one_does.Goals as goal

pub returns : goal.returns
returns c = of_either_list
