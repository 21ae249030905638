-- A turn adds a goal or doesn't, isn't made, or was made as often as it may be.
use Rattle.std.proofs.Common.{◌∙◌, ap, sym, arith}
use Rattle.rx_shapes.specs.Kept.{turned}
use Rattle.rx_shapes.proofs.Times.{grown_turned, none_left, none_turned, steady_answer}
use Rattle.rx_shapes.proofs.turning.turns.Goals as goal

pub returns-in-Some-2-clause-exact : goal.returns-in-Some-2-clause-exact
returns-in-Some-2-clause-exact g c =
    steady_answer c.args.aim.now.rules.now
    (g.E.Explores.found (g.E.Explores.world c.args.explores.now)) c.args.aim.now.plan.now
    c.args.aim.now.goal.now c.loop-left.left c.loop-left.shapes c.in-Some.turn _
    c.first_equation.result c.as_slice.result.now c.loop-left-test.true
    c.loop-left.invariant.exact
    (sym c.in-Some.is ∙ c.in_ok-turn.ensures.exact ∙
    ap (λ w. turned c.args.aim.now.rules.now (g.E.Explores.found w) c.args.aim.now.plan.now
    c.args.aim.now.goal.now c.loop-left.shapes) c.loop-left.invariant.world)
    c.if-branch.false c.as_slice.ensures c.first_equation.ensures

pub returns-in-None-clause-exact : goal.returns-in-None-clause-exact
returns-in-None-clause-exact g c =
    none_turned c.args.aim.now.rules.now
    (g.E.Explores.found (g.E.Explores.world c.args.explores.now)) c.args.aim.now.plan.now
    c.args.aim.now.goal.now c.loop-left.left c.loop-left.shapes _ c.loop-left-test.true
    c.loop-left.invariant.exact
    (sym c.in-None.is ∙ c.in_ok-turn.ensures.exact ∙
    ap (λ w. turned c.args.aim.now.rules.now (g.E.Explores.found w) c.args.aim.now.plan.now
    c.args.aim.now.goal.now c.loop-left.shapes) c.loop-left.invariant.world)

pub loop-left-preserved : goal.loop-left-preserved
loop-left-preserved g c = record {
  ready = c.in_ok-turn.ensures.ready;
  world = c.in_ok-turn.ensures.world ∙ c.loop-left.invariant.world;
  exact =
      grown_turned c.args.aim.now.rules.now
      (g.E.Explores.found (g.E.Explores.world c.args.explores.now)) c.args.aim.now.plan.now
      c.args.aim.now.goal.now c.loop-left.left c.loop-left.shapes c.in-Some.turn _
      c.loop-left-test.true
      c.loop-left.invariant.exact
      (sym c.in-Some.is ∙ c.in_ok-turn.ensures.exact ∙
      ap (λ w. turned c.args.aim.now.rules.now (g.E.Explores.found w) c.args.aim.now.plan.now
      c.args.aim.now.goal.now c.loop-left.shapes) c.loop-left.invariant.world)
      c.if-branch.true;
}

pub returns-clause-exact : goal.returns-clause-exact
returns-clause-exact g c =
    none_left c.args.aim.now.rules.now
    (g.E.Explores.found (g.E.Explores.world c.args.explores.now)) c.args.aim.now.plan.now
    c.args.aim.now.goal.now c.loop-left.left c.loop-left.shapes _ (omega arith)
    c.loop-left.invariant.exact
