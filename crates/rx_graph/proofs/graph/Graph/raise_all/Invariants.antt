-- The vertices of no greater count are done.
use Rattle.std.proofs.Common.{◌+◌}
use Rattle.rx_graph.specs.Graph.{rows_of}
use Rattle.rx_graph.specs.Ranked.{HeightsTo}
use Rattle.rx_graph.proofs.graph.Graph.raise_all.Given as goal

abbrev pub invariant-loop-done : goal.invariant-loop-done
invariant-loop-done l =
    HeightsTo (rows_of l.self.rows.items) l.labels l.counts (l.done + 1) 0 l.heights
