-- The graph so far is that of the first pairs.
use Rattle.std.proofs.Common.{take}
use Rattle.rx_graph.specs.Graph.{IsGraphOf, rows_of}
use Rattle.rx_pairs.specs.Graph.{edges_of}
use Rattle.rx_rank.specs.Answers.{pairs_at}
use Rattle.rx_rank.proofs.representatives.graph_of.Given as goal

abbrev pub invariant-loop-pair : goal.invariant-loop-pair
invariant-loop-pair l =
    IsGraphOf l.symbols (edges_of (take l.pair-index (pairs_at l.pairs)))
    (rows_of l.graph.rows.items)
