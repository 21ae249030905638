use Rattle.rx_term_words.proofs.EquationLaws.{equations_once}
use Rattle.rx_term_words.proofs.laws.equations_have_one_reading.Goals as goal

pub returns : goal.returns
returns c = equations_once
