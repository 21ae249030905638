-- The first n vertices, each for itself.
use Rattle.std.proofs.Common.{◌≡◌, ◌<◌, ℕ, get_or, length}
use Rattle.rx_graph.proofs.components.own_labels.Given as goal

abbrev pub invariant-loop-vertex : goal.invariant-loop-vertex
invariant-loop-vertex l = record {
  count : length l.labels.items ≡ l.vertex;
  own : (a : ℕ) → a < l.vertex → get_or l.labels.items a 0 ≡ a;
}
