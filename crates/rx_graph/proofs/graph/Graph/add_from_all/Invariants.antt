-- An edge from each of the first n sources.
use Rattle.std.proofs.Common.{take}
use Rattle.rx_graph.specs.Graph.{rows_of}
use Rattle.rx_graph.specs.Rows.{HasAllFrom}
use Rattle.rx_graph.proofs.graph.Graph.add_from_all.Given as goal

abbrev pub invariant-loop-source : goal.invariant-loop-source
invariant-loop-source l =
    HasAllFrom (rows_of l.initial.self.rows.items) (take l.source-index l.sources) l.to
    (rows_of l.self.rows.items)
