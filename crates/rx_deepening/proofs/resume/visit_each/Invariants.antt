-- The nodes so far are visited, and what is kept goes on by those that are kept of them.
use Rattle.std.proofs.Common.{◌≡◌, ◌<◌, ℕ, All}
use Rattle.std.specs.Prelude.{map}
use Rattle.rx_deepening.specs.Keeping.{IsVisited, OfLeaf}
use Rattle.rx_deepening.specs.Views.{IfFound, seen_choice}
use Rattle.rx_deepening.specs.Visits.{visits_of}
use Rattle.rx_deepening.proofs.resume.visit_each.Given as goal

abbrev pub invariant-loop-choice : goal.invariant-loop-choice
invariant-loop-choice g l = record {
  ready : g.T.Tree.ready l.tree;
  world : g.T.Tree.world l.tree ≡ g.T.Tree.world l.initial.tree;
  visited :
      IsVisited g.T.Tree.view (g.T.Tree.settled (g.T.Tree.world l.initial.tree))
      (g.T.Tree.menu (g.T.Tree.world l.initial.tree)) l.fn.progress
      (λ n. visits_of (g.T.Tree.settled (g.T.Tree.world l.initial.tree))
      (g.T.Tree.menu (g.T.Tree.world l.initial.tree)) n l.path
      (map (seen_choice g.T.Tree.view) l.yielded))
      l.progress;
  valid : IfFound (g.T.Tree.valid (g.T.Tree.world l.initial.tree)) l.fn.progress.counter.ended →
      IfFound (g.T.Tree.valid (g.T.Tree.world l.initial.tree)) l.progress.counter.ended;
  leaves : (most : ℕ) → 0 < most → All (OfLeaf (g.T.Tree.valid (g.T.Tree.world l.initial.tree))
      most) l.fn.progress.kept
      → All (OfLeaf (g.T.Tree.valid (g.T.Tree.world l.initial.tree)) most) l.progress.kept;
}
