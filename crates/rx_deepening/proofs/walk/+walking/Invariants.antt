-- The visits of the choices so far are counted.
use Rattle.std.proofs.Common.{◌≡◌, ◌+◌, ◌*◌}
use Rattle.std.specs.Prelude.{map}
use Rattle.rx_deepening.specs.Counters.{counted}
use Rattle.rx_deepening.specs.Views.{IfFound, seen_choice, seen_counter}
use Rattle.rx_deepening.specs.Visits.{visits_of}
use Rattle.rx_deepening.proofs.walk.+walking.Given as goal

abbrev pub decreases-walk : goal.decreases-walk
decreases-walk g l = 2 * l.more

abbrev pub decreases-walk_all : goal.decreases-walk_all
decreases-walk_all g l = 2 * l.more + 1

abbrev pub invariant-walk_all-loop-choice : goal.invariant-walk_all-loop-choice
invariant-walk_all-loop-choice g l = record {
  ready : g.T.Tree.ready l.tree;
  world : g.T.Tree.world l.tree ≡ g.T.Tree.world l.initial.tree;
  counts :
      seen_counter g.T.Tree.view l.counter ≡ counted (seen_counter g.T.Tree.view l.fn.counter)
      (visits_of (g.T.Tree.settled (g.T.Tree.world l.initial.tree))
      (g.T.Tree.menu (g.T.Tree.world l.initial.tree)) l.more l.path
      (map (seen_choice g.T.Tree.view) l.yielded));
  valid : IfFound (g.T.Tree.valid (g.T.Tree.world l.initial.tree)) l.fn.counter.ended →
      IfFound (g.T.Tree.valid (g.T.Tree.world l.initial.tree)) l.counter.ended;
}
