use Rattle.rx_words.proofs.Once.{parts_once}
use Rattle.rx_words.proofs.parts.read_parts.Goals as goal

pub read_list-requires : goal.read_list-requires
read_list-requires c = record { once = parts_once }
