-- The edges of the first pairs.
use Rattle.std.proofs.Common.{◌≡◌, take}
use Rattle.rx_pairs.specs.Graph.{edges_of}
use Rattle.rx_rank.specs.Answers.{pairs_at}
use Rattle.rx_has_ranks.proofs.components_memo.edges_of.Given as goal

abbrev pub invariant-loop-pair : goal.invariant-loop-pair
invariant-loop-pair l = l.edges.items ≡ edges_of (pairs_at (take l.pair-index l.pairs))
