use Rattle.rx_words.proofs.Once.{numbers_once}
use Rattle.rx_words.proofs.laws.numbers_have_one_reading.Goals as goal

pub returns : goal.returns
returns c = numbers_once
