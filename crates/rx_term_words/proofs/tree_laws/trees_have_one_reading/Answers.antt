use Rattle.rx_term_words.proofs.TreeWords.{trees_once}
use Rattle.rx_term_words.proofs.tree_laws.trees_have_one_reading.Goals as goal

pub returns : goal.returns
returns c = trees_once 200
