-- One shape after the other.
use Rattle.std.proofs.Common.{◌∙◌, ap, sym}
use Rattle.rx_shapes.specs.Kept.{turned_at}
use Rattle.rx_shapes.proofs.TriedInOrder.{some_counted}
use Rattle.rx_shapes.proofs.turning.turned.Goals as goal

pub loop-at-preserved : goal.loop-at-preserved
loop-at-preserved g c = record {
  ready = c.in_ok-next.ensures.ready;
  world = c.in_ok-next.ensures.world ∙ c.loop-at.invariant.world;
  exact =
      some_counted (turned_at c.args.aim.now.rules.now
      (g.E.Explores.found (g.E.Explores.world c.args.explores.now)) c.args.aim.now.plan.now
      c.args.aim.now.goal.now) c.loop-at.turn c.in-Some.next _ c.loop-at.at c.len-count.result
      c.loop-at-test.true c.loop-at.invariant.exact
      (sym c.in-Some.is ∙ c.in_ok-next.ensures.exact ∙
      ap (λ w. turned_at c.args.aim.now.rules.now (g.E.Explores.found w) c.args.aim.now.plan.now
      c.args.aim.now.goal.now c.loop-at.turn c.loop-at.at) c.loop-at.invariant.world);
}
