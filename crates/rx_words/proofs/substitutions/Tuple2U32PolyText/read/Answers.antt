use Rattle.rx_words.proofs.Once.{variables_once}
use Rattle.rx_words.proofs.substitutions.Tuple2U32PolyText.read.Goals as goal

pub read_pair-requires : goal.read_pair-requires
read_pair-requires c = record { once = variables_once }
