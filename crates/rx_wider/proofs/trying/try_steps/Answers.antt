-- One more step is taken.
use Rattle.std.proofs.Common.{◌≡◌, ◌∷◌, [], ◌++◌, List, Option, subst, sym}
use Rattle.rx_inference.specs.declared.step.Step.{Step}
use Rattle.rx_moves.specs.Moves.{move_of}
use Rattle.rx_moves.specs.Trying.{attempt}
use Rattle.rx_settle.specs.Answers.{Takes}
use Rattle.rx_wider.proofs.Walking.{Walking, one_more}
use Rattle.rx_wider.proofs.trying.try_steps.Goals as goal

pub loop-step-preserved : goal.loop-step-preserved
loop-step-preserved g c =
    let parts = c.args.rules.now in
    let now = c.loop-step.state in
    let new = c.try_step.new.state in
    let made = c.loop-step.made in
    let step = c.in-Some.step.now in
    let rest = c.in-Some.more.now in
    let taken = c.in-Some-taken.taken in
    let here = subst (Walking parts c.args.state.now c.args.steps.now now made)
    c.in-Some.ensures.cases.0 c.loop-step.invariant.walking in
    let trial = subst (λ (s : Step). Takes parts now new (attempt parts now (move_of s)).made
    c.in_ok-tried.tried.taken) c.in_ok-step.ensures c.in_ok-tried.ensures.trial.taken in
    let takes = subst (λ (o : Option Step). Takes parts now new
    (attempt parts now (move_of step)).made o) c.in-Some-taken.is trial in
    let ok = c.in_ok-push-in-Some-taken.ensures.ok in
    let same = c.in-Some-taken.taken-is in
    let pushed : c.push.new.self ≡ made ++ taken ∷ [] = cc in
    record {
      solver = c.in_ok-tried.ensures.solver;
      walking =
          subst (λ (xs : List Step). Walking parts c.args.state.now c.args.steps.now new xs rest)
          (sym pushed)
          (one_more parts c.args.state.now c.args.steps.now now new made rest step taken here
          takes);
    }
