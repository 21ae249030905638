-- Each line may come, and adds its step.
use Rattle.std.proofs.Common.{◌≡◌, Some, refl, subst, sym}
use Rattle.rx_inference.specs.declared.step.Step.{Step}
use Rattle.rx_log.specs.Places.{after}
use Rattle.rx_log.specs.declared.line.Line.TheVariants as line
use Rattle.rx_log.specs.declared.line_state.LineState.{LineState}
use Rattle.rx_log.specs.declared.line_state.LineState.TheVariants.{InSteps}
use Rattle.rx_check.specs.LineByLine.{IsOpen}
use Rattle.rx_check.specs.Replay.{place_after}
use Rattle.rx_check.specs.Whole.{with_steps}
use Rattle.rx_check.proofs.WholeLines.{all_taken, leads_same, no_steps, none_taken, one_taken, step_leads, steps_pushed_on}
use Rattle.rx_check.proofs.replayer.Replayer.take_steps.Goals as goal

pub loop-step-init : goal.loop-step-init
loop-step-init c = record {
  place = c.requires.at;
  roots = c.requires.roots;
  takes = none_taken with_steps c.args.self.now c.args.rules.now no_steps;
}

pub line-requires-clause-comes : goal.line-requires-clause-comes
line-requires-clause-comes c =
    let old = place_after c.loop-step.self in (
      0,
      leads_same old old c.in_ok-next.next (line.Step c.step-item.result) 0 InSteps refl
          c.in_ok-next.ensures (step_leads old c.step-item.result c.loop-step.invariant.place),
    )

pub loop-step-preserved : goal.loop-step-preserved
loop-step-preserved c =
    let i = c.loop-step.step-index in
    let step : Step = c.step-item.result in
    let old = place_after c.loop-step.self in
    let leads : after old (c.in_ok-next.next, 0) ≡ Some InSteps =
    leads_same old old c.in_ok-next.next (line.Step step) 0 InSteps refl c.in_ok-next.ensures
    (step_leads old step c.loop-step.invariant.place) in
    record {
      place = subst (λ (at : LineState). IsOpen at) (sym c.in_ok-line.ensures.place) tt;
      roots = c.in_ok-line.ensures.roots;
      takes =
          one_taken with_steps line.Step c.args.self.now c.loop-step.self c.line.new.self
          c.args.rules.now c.args.steps.now i step step c.in_ok-next.next 0 InSteps steps_pushed_on
          c.loop-step-test.true c.step-item.is c.in_ok-next.ensures leads
          c.loop-step.invariant.takes c.in_ok-line.ensures.stands;
    }

pub returns-clause-takes : goal.returns-clause-takes
returns-clause-takes c =
    all_taken with_steps c.args.self.now c.loop-step.self c.args.rules.now c.args.steps.now
    c.loop-step.step-index c.loop-step-test.false c.loop-step.invariant.takes
