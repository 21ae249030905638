-- What is counted so far, and then the rounds that are left, is all; and what is kept represents
-- these.
use Rattle.std.proofs.Common.{◌≡◌, ◌+◌, ◌-◌, [], All}
use Rattle.rx_deepening.specs.Keeping.{OfLeaf, StandsForLists}
use Rattle.rx_deepening.specs.Counters.{begin, counted}
use Rattle.rx_deepening.specs.Views.{IfFound, seen_counter}
use Rattle.rx_deepening.specs.Visits.{lists, visits}
use Rattle.rx_deepening.specs.declared.counter.Ended.TheVariants.{Going}
use Rattle.rx_deepening.proofs.lists.search.Given as goal

abbrev pub invariant-loop-list : goal.invariant-loop-list
invariant-loop-list g l = record {
  ready : g.T.Tree.ready l.tree;
  world : g.T.Tree.world l.tree ≡ g.T.Tree.world l.fn.tree;
  counts :
      counted (seen_counter g.T.Tree.view l.progress.counter)
      (lists (g.T.Tree.settled (g.T.Tree.world l.fn.tree))
      (g.T.Tree.menu (g.T.Tree.world l.fn.tree)) (l.depth - l._list) (l._list + 1)
      (g.T.Tree.view l.fn.start))
      ≡ counted (begin l.budget)
      (lists (g.T.Tree.settled (g.T.Tree.world l.fn.tree))
      (g.T.Tree.menu (g.T.Tree.world l.fn.tree)) (l.depth + 1) 0 (g.T.Tree.view l.fn.start));
  stands : l.progress.counter.ended ≡ Going
      → StandsForLists g.T.Tree.view (g.T.Tree.settled (g.T.Tree.world l.fn.tree))
      (g.T.Tree.menu (g.T.Tree.world l.fn.tree)) l.progress.counter.note l.progress.kept
      (λ n. visits (g.T.Tree.settled (g.T.Tree.world l.fn.tree))
      (g.T.Tree.menu (g.T.Tree.world l.fn.tree)) (n + (l._list + 1)) []
      (g.T.Tree.view l.fn.start));
  valid : IfFound (g.T.Tree.valid (g.T.Tree.world l.fn.tree)) l.progress.counter.ended;
  leaves : All (OfLeaf (g.T.Tree.valid (g.T.Tree.world l.fn.tree)) (l._list + 1)) l.progress.kept;
}
