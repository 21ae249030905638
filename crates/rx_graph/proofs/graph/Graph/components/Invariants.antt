-- The labels up to the vertex.
use Rattle.std.proofs.Common.{◌≡◌, ℕ, List, length}
use Rattle.rx_graph.specs.Graph.{IsGraphOf, rows_of}
use Rattle.rx_graph.proofs.ComponentLaws.{LabelsTo}
use Rattle.rx_graph.proofs.graph.Graph.components.Given as goal

abbrev pub invariant-loop-vertex : goal.invariant-loop-vertex
invariant-loop-vertex l = record {
  count : length l.labels.items ≡ length l.self.rows.items;
  labels : (edges : List (ℕ × ℕ)) → IsGraphOf (length l.self.rows.items) edges
      (rows_of l.self.rows.items)
      → LabelsTo (length l.self.rows.items) edges l.vertex l.labels.items;
}
