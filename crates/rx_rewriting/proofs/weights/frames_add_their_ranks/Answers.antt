use Rattle.rx_rewriting.proofs.SmallerWeights.{weight_of-in_context}
use Rattle.rx_rewriting.proofs.weights.frames_add_their_ranks.Goals as goal

pub returns : goal.returns
returns c = weight_of-in_context
