use Rattle.rx_words.proofs.Once.{substitutions_once}
use Rattle.rx_words.proofs.laws.substitutions_have_one_reading.Goals as goal

pub returns : goal.returns
returns c = substitutions_once
