use Rattle.rx_term.proofs.ShapeLaws.{one_ground_term}
use Rattle.rx_term.proofs.laws.equal_values_make_one_ground_term.Goals as goal

pub returns : goal.returns
returns c = one_ground_term
