-- Those that are left so far, of which the goals that are left show some, are all.
use Rattle.std.proofs.Common.{◌≡◌, drop}
use Rattle.rx_shapes.specs.Shown.{shown_at_all}
use Rattle.rx_shapes.proofs.shown.shown_at_all.Given as goal

abbrev pub invariant-loop-goal : goal.invariant-loop-goal
invariant-loop-goal g l = record {
  ready : g.E.Explores.ready l.explores;
  world : g.E.Explores.world l.explores ≡ g.E.Explores.world l.fn.explores;
  exact : shown_at_all l.rows (drop l.goal-index l.goals) ≡ shown_at_all l.fn.rows l.goals;
}
