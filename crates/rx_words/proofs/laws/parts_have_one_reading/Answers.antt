use Rattle.rx_words.proofs.Once.{part_lists_once}
use Rattle.rx_words.proofs.laws.parts_have_one_reading.Goals as goal

pub returns : goal.returns
returns c = part_lists_once
