-- Goals are gathered once more, or something doesn't apply, or it was done as often as it is to be.
use Rattle.std.proofs.Common.{◌∙◌, ap, sym, arith}
use Rattle.rx_shapes.specs.Kept.{gather}
use Rattle.rx_shapes.proofs.Times.{all_gathered, none_gathered, some_gathered}
use Rattle.rx_shapes.proofs.gathering.gather_times.Goals as goal

pub returns-in-None-clause-exact : goal.returns-in-None-clause-exact
returns-in-None-clause-exact g c =
    none_gathered c.args.aim.now.rules.now
    (g.E.Explores.found (g.E.Explores.world c.args.explores.now)) c.args.aim.now.plan.now
    c.args.aim.now.goal.now c.loop-left.left c.loop-left.so_far _ c.loop-left-test.true
    c.loop-left.invariant.exact
    (sym c.in-None.is ∙ c.in_ok-next.ensures.exact ∙
    ap (λ w. gather c.args.aim.now.rules.now (g.E.Explores.found w) c.args.aim.now.plan.now
    c.args.aim.now.goal.now c.loop-left.so_far) c.loop-left.invariant.world)

pub loop-left-preserved : goal.loop-left-preserved
loop-left-preserved g c = record {
  ready = c.in_ok-next.ensures.ready;
  world = c.in_ok-next.ensures.world ∙ c.loop-left.invariant.world;
  exact =
      some_gathered c.args.aim.now.rules.now
      (g.E.Explores.found (g.E.Explores.world c.args.explores.now)) c.args.aim.now.plan.now
      c.args.aim.now.goal.now c.loop-left.left c.loop-left.so_far c.in-Some.next _
      c.loop-left-test.true
      c.loop-left.invariant.exact
      (sym c.in-Some.is ∙ c.in_ok-next.ensures.exact ∙
      ap (λ w. gather c.args.aim.now.rules.now (g.E.Explores.found w) c.args.aim.now.plan.now
      c.args.aim.now.goal.now c.loop-left.so_far) c.loop-left.invariant.world);
}

pub returns-clause-exact : goal.returns-clause-exact
returns-clause-exact g c =
    all_gathered c.args.aim.now.rules.now
    (g.E.Explores.found (g.E.Explores.world c.args.explores.now)) c.args.aim.now.plan.now
    c.args.aim.now.goal.now c.loop-left.left c.loop-left.so_far _ (omega arith)
    c.loop-left.invariant.exact
