-- Steps one after the other, as those of a log.
use Rattle.std.proofs.Common.{◌≡◌, ℕ, ◌+◌, Result, Ok, Err, List, [], ◌∷◌, ap}
use Rattle.rx_term.specs.declared.rule_set.RuleParts.{RuleParts}
use Rattle.rx_inference.specs.Judging.{StepFault}
use Rattle.rx_inference.specs.States.{State, applied}
use Rattle.rx_inference.specs.declared.step.Step.{Step}
use Rattle.rx_log.specs.Acceptance.{after_step, after_steps, ◌>>=◌}
use Rattle.rx_settle.specs.Answers.{after, after_all}

module _ (parts : RuleParts) (end : State) where
  one_logged : (k : ℕ) (xs : List Step) (answer : Result State StepFault)
      → ((next : State) → after_all parts next xs ≡ Ok end → after_steps parts (k + 1) next xs ≡
      Ok end)
      → after answer (λ next. after_all parts next xs) ≡ Ok end
      → (after_step k answer >>= λ next. after_steps parts (k + 1) next xs) ≡ Ok end
  one_logged k xs (Ok next) later e = later next e
  one_logged k xs (Err fault) later e = absurd cc

  pub logged : (k : ℕ) (state : State) (xs : List Step) → after_all parts state xs ≡ Ok end →
      after_steps parts k state xs ≡ Ok end
  logged k state [] e = let same : state ≡ end = cc in ap Ok same
  logged k state (x ∷ xs) e =
      one_logged k xs (applied parts state x) (λ next. logged (k + 1) next xs) e
