-- The first n symbols.
use Rattle.std.proofs.Common.{◌≡◌, ◌<◌, ◌↔◌, ℕ, List, true, false, get_or, length}
use Rattle.rx_graph.specs.Graph.{IsGraphOf, rows_of}
use Rattle.rx_pairs.specs.Graph.{IsLoopPoint}
use Rattle.rx_pairs.proofs.loops.points_of.Given as goal

abbrev pub invariant-loop-symbol : goal.invariant-loop-symbol
invariant-loop-symbol l = record {
  count : length l.points.items ≡ l.symbol;
  points : (edges : List (ℕ × ℕ)) → IsGraphOf (length l.graph.rows.items) edges
      (rows_of l.graph.rows.items) → (f : ℕ) → f < l.symbol
      → (get_or l.points.items f false ≡ true) ↔ IsLoopPoint l.symbols edges f;
}
