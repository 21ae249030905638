-- No phase ends with No before its rows, and a found sum is a negative number.
use Rattle.rx_refuter_laws.proofs.Opening.{open_leaf}
use Rattle.rx_refuter_laws.proofs.laws.no_has_an_open_leaf.Goals as goal

pub returns : goal.returns
returns c = open_leaf
