-- The turn so far, and then the shapes that are left, give all.
use Rattle.std.proofs.Common.{◌≡◌, ◌-◌}
use Rattle.std.specs.List.{range_with_len}
use Rattle.rx_shapes.specs.Kept.{turned, turned_at}
use Rattle.rx_shapes.proofs.TriedInOrder.{Trying}
use Rattle.rx_shapes.proofs.turning.turned.Given as goal

abbrev pub invariant-loop-at : goal.invariant-loop-at
invariant-loop-at g l = record {
  ready : g.E.Explores.ready l.explores;
  world : g.E.Explores.world l.explores ≡ g.E.Explores.world l.fn.explores;
  exact : Trying (turned_at l.aim.rules.now (g.E.Explores.found (g.E.Explores.world l.fn.explores))
      l.aim.plan.now l.aim.goal.now) l.turn (range_with_len l.at (l.count - l.at))
      (turned l.aim.rules.now (g.E.Explores.found (g.E.Explores.world l.fn.explores)) l.aim.plan.now
      l.aim.goal.now l.fn.shapes);
}
