-- What the steps of a log keep: they are a run, and no hypothesis of it has a result as its left
-- side.
use Rattle.std.proofs.Common.{◌≡◌, ℕ, ◌+◌, Result, Ok, Err, List, [], ◌∷◌, refl, sym, subst, All}
use Rattle.rx_term.specs.declared.rule_set.RuleParts.{RuleParts}
use Rattle.rx_inference.specs.Judging.{StepFault}
use Rattle.rx_inference.specs.States.{State, applied}
use Rattle.rx_inference.specs.declared.step.Step.{Step}
use Rattle.rx_pairs.specs.Pairs.{HasRoot}
use Rattle.rx_proofs.specs.Runs.{NoStep, OneMore, Run}
use Rattle.rx_proofs.proofs.Bridge.{applied_makes}
use Rattle.rx_proofs.proofs.Rooted.{next_rooted}
use Rattle.rx_log.specs.Acceptance.{after_step, after_steps, ◌>>=◌}

-- ---- steps are a run

module _ (parts : RuleParts) (end : State) where
  -- one step, and those after it
  one_more : (k : ℕ) (state : State) (step : Step) (steps : List Step)
      (answer : Result State StepFault)
      → applied parts state step ≡ answer
      → ((next : State) → after_steps parts (k + 1) next steps ≡ Ok end → Run parts end next)
      → (after_step k answer >>= λ next. after_steps parts (k + 1) next steps) ≡ Ok end →
      Run parts end state
  one_more k state step steps (Ok next) is later e = OneMore state next step is (later next e)
  one_more k state step steps (Err fault) is later e = absurd cc

  pub steps_run : (k : ℕ) (state : State) (steps : List Step) → after_steps parts k state steps ≡
      Ok end → Run parts end state
  steps_run k state [] e = let same : state ≡ end = cc in subst (Run parts end) (sym same) NoStep
  steps_run k state (step ∷ steps) e =
      one_more k state step steps (applied parts state step) refl
      (λ next. steps_run (k + 1) next steps) e

-- ---- hypotheses

module _ (parts : RuleParts) where
  -- so has what is left of the state after the answer to a step
  pub step_rooted : (k : ℕ) (state next : State) (step : Step) (answer : Result State StepFault) →
      applied parts state step ≡ answer
      → after_step k answer ≡ Ok next → All HasRoot state.hypotheses → All HasRoot next.hypotheses
  step_rooted k state next step (Ok after) is e rooted =
      let same : after ≡ next = cc in
      subst (λ (s : State). All HasRoot s.hypotheses) same
      (next_rooted parts state after (applied_makes parts state after step is) rooted)
  step_rooted k state next step (Err fault) is e rooted = absurd cc
