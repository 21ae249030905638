use Rattle.rx_words.proofs.Once.{rows_once}
use Rattle.rx_words.proofs.substitutions.read_rows.Goals as goal

pub read_list-requires : goal.read_list-requires
read_list-requires c = record { once = rows_once }
