-- The counts of the first n vertices.
use Rattle.std.proofs.Common.{◌≡◌, ◌<◌, ℕ, List, get_or, length}
use Rattle.rx_graph.specs.Graph.{IsGraphOf, rows_of}
use Rattle.rx_graph.specs.Ranked.{IsReachCount}
use Rattle.rx_graph.proofs.graph.Graph.reach_counts.Given as goal

abbrev pub invariant-loop-vertex : goal.invariant-loop-vertex
invariant-loop-vertex l = record {
  count : length l.counts.items ≡ l.vertex;
  counts : (edges : List (ℕ × ℕ)) → IsGraphOf (length l.self.rows.items) edges
      (rows_of l.self.rows.items) → (a : ℕ) → a < l.vertex
      → IsReachCount (length l.self.rows.items) edges a (get_or l.counts.items a 0);
}
