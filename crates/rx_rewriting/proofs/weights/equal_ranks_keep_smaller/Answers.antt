use Rattle.rx_rewriting.proofs.SmallerWeights.{Smaller-add_left, Smaller-add_right}
use Rattle.rx_rewriting.proofs.weights.equal_ranks_keep_smaller.Goals as goal

pub returns-clause-in_front : goal.returns-clause-in_front
returns-clause-in_front c = Smaller-add_left

pub returns-clause-after : goal.returns-clause-after
returns-clause-after c = Smaller-add_right
