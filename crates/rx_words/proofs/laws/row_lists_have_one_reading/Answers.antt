use Rattle.rx_words.proofs.Once.{row_lists_once}
use Rattle.rx_words.proofs.laws.row_lists_have_one_reading.Goals as goal

pub returns : goal.returns
returns c = row_lists_once
