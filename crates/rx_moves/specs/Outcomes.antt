-- What comes of a step before it is taken.
use Rattle.std.specs.Prelude.{◌≡◌, Ok}
use Rattle.rx_solve.specs.Attempts.{beyond, fails}
use Rattle.rx_term.specs.declared.rule_set.RuleParts.{RuleParts}
use Rattle.rx_inference.specs.Judging.{first_rows}
use Rattle.rx_inference.specs.States.{State}
use Rattle.rx_inference.specs.declared.formed_step.FormedStep.{FormedStep}
use Rattle.rx_inference.specs.declared.step.Step.{Step}
use Rattle.rx_moves.specs.Moves.{move_of}
use Rattle.rx_moves.specs.Parts.{ShownBy, formed_first}
use Rattle.rx_moves.specs.Trying.{attempt}
use Rattle.rx_moves.specs.declared.outcome.Outcome.{Outcome}
use Rattle.rx_moves.specs.declared.outcome.Outcome.TheVariants.{Shown, Fails, TooLarge}

-- it is formed and shown so, or the move fails, or is beyond the limits
unfoldable pub IsOutcome : RuleParts → State → Step → Outcome → Type 0
IsOutcome parts state step (Shown made certs) =
    (formed_first parts state step ≡ Ok made) ×
    ShownBy (first_rows state.goals) (first_rows made.goals) made.asked certs
IsOutcome parts state step Fails = attempt parts state (move_of step) ≡ fails
IsOutcome parts state step TooLarge = attempt parts state (move_of step) ≡ beyond

-- so of each step that is formed so
unfoldable pub Follows : State → FormedStep → Outcome → Type 0
Follows state made outcome =
    (parts : RuleParts) (step : Step) → formed_first parts state step ≡ Ok made →
    IsOutcome parts state step outcome
