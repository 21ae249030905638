use Rattle.rx_words.proofs.Once.{replacements_once}
use Rattle.rx_words.proofs.substitutions.read_subst.Goals as goal

pub read_list-requires : goal.read_list-requires
read_list-requires c = record { once = replacements_once }
