use Rattle.rx_rewriting.proofs.MultisetOrder.{weight_accessible}
use Rattle.rx_rewriting.proofs.weights.weights_are_accessible.Goals as goal

pub returns : goal.returns
returns c = weight_accessible
