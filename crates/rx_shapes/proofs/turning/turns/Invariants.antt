-- As many turns as are left from the shapes so far give all.
use Rattle.std.proofs.Common.{◌≡◌}
use Rattle.rx_shapes.specs.Kept.{most_turns, turns}
use Rattle.rx_shapes.proofs.turning.turns.Given as goal

abbrev pub invariant-loop-left : goal.invariant-loop-left
invariant-loop-left g l = record {
  ready : g.E.Explores.ready l.explores;
  world : g.E.Explores.world l.explores ≡ g.E.Explores.world l.fn.explores;
  exact :
      turns l.aim.rules.now (g.E.Explores.found (g.E.Explores.world l.fn.explores))
      l.aim.plan.now l.aim.goal.now l.left l.shapes ≡
      turns l.aim.rules.now (g.E.Explores.found (g.E.Explores.world l.fn.explores))
      l.aim.plan.now l.aim.goal.now most_turns l.fn.shapes;
}

abbrev pub decreases-loop-left : goal.decreases-loop-left
decreases-loop-left g l = l.left
