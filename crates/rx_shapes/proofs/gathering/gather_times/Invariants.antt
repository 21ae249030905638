-- The goals so far, and what is gathered as often as is left, give all.
use Rattle.std.proofs.Common.{◌≡◌}
use Rattle.rx_shapes.specs.Kept.{gather_times, most_times}
use Rattle.rx_shapes.proofs.gathering.gather_times.Given as goal

abbrev pub invariant-loop-left : goal.invariant-loop-left
invariant-loop-left g l = record {
  ready : g.E.Explores.ready l.explores;
  world : g.E.Explores.world l.explores ≡ g.E.Explores.world l.fn.explores;
  exact :
      gather_times l.aim.rules.now (g.E.Explores.found (g.E.Explores.world l.fn.explores))
      l.aim.plan.now l.aim.goal.now l.left l.so_far ≡
      gather_times l.aim.rules.now (g.E.Explores.found (g.E.Explores.world l.fn.explores))
      l.aim.plan.now l.aim.goal.now most_times l.fn.so_far;
}

abbrev pub decreases-loop-left : goal.decreases-loop-left
decreases-loop-left g l = l.left
