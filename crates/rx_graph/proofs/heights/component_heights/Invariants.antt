-- The heights of the first n labels.
use Rattle.std.proofs.Common.{◌≡◌, ◌<◌, ℕ, get_or, length}
use Rattle.rx_graph.proofs.heights.component_heights.Given as goal

abbrev pub invariant-loop-label : goal.invariant-loop-label
invariant-loop-label l = record {
  count : length l.named.items ≡ l.label-index;
  named : (a : ℕ) → a < l.label-index → get_or l.named.items a 0 ≡
      get_or l.heights (get_or l.labels a 0) 0;
}
