-- The first n vertices that have both marks have the label.
use Rattle.std.proofs.Common.{◌≡◌, ◌<◌, ◌⊎◌, ℕ, get_or}
use Rattle.rx_graph.specs.Graph.{IsMarked}
use Rattle.rx_graph.proofs.components.label_both.Given as goal

abbrev pub invariant-loop-vertex : goal.invariant-loop-vertex
invariant-loop-vertex l = record {
  both : (b : ℕ) → b < l.vertex → IsMarked l.forwards b → IsMarked l.backwards b →
      get_or l.labels b 0 ≡ l.label;
  only : (b : ℕ) → (get_or l.labels b 0 ≡ get_or l.initial.labels b 0) ⊎
      (IsMarked l.forwards b × IsMarked l.backwards b × (get_or l.labels b 0 ≡ l.label));
}
