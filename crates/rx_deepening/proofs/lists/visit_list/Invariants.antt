-- The kept nodes so far are visited.
use Rattle.std.proofs.Common.{◌≡◌, ◌+◌, ℕ, All, List}
use Rattle.rx_deepening.specs.Keeping.{IsVisited, OfLeaf, StandsForLists}
use Rattle.rx_deepening.specs.Views.{IfFound}
use Rattle.rx_deepening.specs.Visits.{Visit}
use Rattle.rx_deepening.proofs.lists.visit_list.Given as goal

abbrev pub invariant-loop-node : goal.invariant-loop-node
invariant-loop-node g l = record {
  ready : g.T.Tree.ready l.tree;
  world : g.T.Tree.world l.tree ≡ g.T.Tree.world l.initial.tree;
  visited : (lists : ℕ → List (Visit g.T.Tree.View g.row.T-Note.Denot))
      → StandsForLists g.T.Tree.view (g.T.Tree.settled (g.T.Tree.world l.initial.tree))
      (g.T.Tree.menu (g.T.Tree.world l.initial.tree)) l.fn.progress.counter.note l.yielded lists
      → IsVisited g.T.Tree.view (g.T.Tree.settled (g.T.Tree.world l.initial.tree))
      (g.T.Tree.menu (g.T.Tree.world l.initial.tree)) l.fn.progress lists l.progress;
  valid : IfFound (g.T.Tree.valid (g.T.Tree.world l.initial.tree)) l.fn.progress.counter.ended →
      IfFound (g.T.Tree.valid (g.T.Tree.world l.initial.tree)) l.progress.counter.ended;
  leaves : (most : ℕ) → All (OfLeaf (g.T.Tree.valid (g.T.Tree.world l.initial.tree)) most) l.yielded
      → All (OfLeaf (g.T.Tree.valid (g.T.Tree.world l.initial.tree)) (most + 1)) l.fn.progress.kept
      → All (OfLeaf (g.T.Tree.valid (g.T.Tree.world l.initial.tree)) (most + 1)) l.progress.kept;
}
