-- The edges from the first n vertices are reversed.
use Rattle.std.proofs.Common.{◌≡◌, length}
use Rattle.rx_graph.specs.Graph.{rows_of}
use Rattle.rx_graph.proofs.RowLaws.{Turned}
use Rattle.rx_graph.proofs.graph.Graph.reversed.Given as goal

abbrev pub invariant-loop-vertex : goal.invariant-loop-vertex
invariant-loop-vertex l = record {
  count : length l.back.rows.items ≡ length l.self.rows.items;
  turned : Turned (rows_of l.self.rows.items) l.vertex (rows_of l.back.rows.items);
}
