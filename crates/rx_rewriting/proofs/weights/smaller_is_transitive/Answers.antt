use Rattle.rx_rewriting.proofs.SmallerWeights.{Smaller-trans}
use Rattle.rx_rewriting.proofs.weights.smaller_is_transitive.Goals as goal

pub returns : goal.returns
returns c = Smaller-trans
