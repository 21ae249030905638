-- The vertices of the count before this one are done.
use Rattle.rx_graph.specs.Graph.{rows_of}
use Rattle.rx_graph.specs.Ranked.{HeightsTo}
use Rattle.rx_graph.proofs.graph.Graph.raise_counted.Given as goal

abbrev pub invariant-loop-vertex : goal.invariant-loop-vertex
invariant-loop-vertex l =
    HeightsTo (rows_of l.self.rows.items) l.labels l.counts l.count l.vertex l.heights
