use Rattle.rx_term.proofs.MeaningLaws.{ground_in_term}
use Rattle.rx_term.proofs.laws.substitution_and_values_commute.Goals as goal

pub returns : goal.returns
returns c = ground_in_term
