-- What was reached so far is marked, and so is what the first n lead to.
use Rattle.std.proofs.Common.{◌≡◌, ◌+◌, ◌-◌, ◌<◌, ℕ, Contains, List, length}
use Rattle.rx_graph.specs.Graph.{IsGraphOf, rows_of}
use Rattle.rx_graph.specs.Marks.{unmarked}
use Rattle.rx_graph.proofs.Marking.{Walked}
use Rattle.rx_graph.proofs.graph.Graph.reached_from.Given as goal

abbrev pub invariant-loop-next : goal.invariant-loop-next
invariant-loop-next l = record {
  count : length l.marks.items ≡ length l.self.rows.items;
  within : (b : ℕ) → Contains l.reached.items b → b < length l.self.rows.items;
  walked : (edges : List (ℕ × ℕ)) → IsGraphOf (length l.self.rows.items) edges
      (rows_of l.self.rows.items) → Walked edges l.start l.marks.items l.reached.items l.next;
}

abbrev pub decreases-loop-next : goal.decreases-loop-next
decreases-loop-next l = unmarked l.marks.items + (length l.reached.items - l.next)
