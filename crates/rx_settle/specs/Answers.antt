-- What the answers of calls that try moves say.
use Rattle.std.specs.Prelude.{◌≡◌, ◌≤◌, All, Option, Some, None, Result, Ok, Err, List, [], ◌∷◌, map}
use Rattle.rx_cert.specs.Depth.{cert_depth}
use Rattle.rx_solve.specs.Attempts.{Tried}
use Rattle.rx_solve.specs.Bounds.{most_deep}
use Rattle.rx_term.specs.declared.rule_set.RuleParts.{RuleParts}
use Rattle.rx_inference.specs.Judging.{StepFault, certificates}
use Rattle.rx_inference.specs.States.{State, applied}
use Rattle.rx_inference.specs.declared.step.Step.{Step}
use Rattle.rx_moves.specs.Moves.{move_of}
use Rattle.rx_settle.specs.Settling as settling
use Rattle.rx_moves.specs.Answers.{IsTaken}
use Rattle.rx_moves.specs.Trying.{Next}
use Rattle.rx_settle.specs.declared.settled.Settled.{Settled}
use Rattle.rx_settle.specs.declared.trial.Trial.{Trial}

-- ---- one step

-- no step is taken and the state is as before; or this step is, and it makes the new state
abbrev pub Takes : RuleParts → State → State → Option Next → Option Step → Type 0
Takes parts old new made None = (made ≡ None) × (new ≡ old)
Takes parts old new made (Some step) =
    (made ≡ Some (record { move = move_of step; state = new })) × IsTaken parts old new step

-- the step that is taken, and the note, are those of what was tried
pub record IsTrial (parts : RuleParts) (old new : State) (tried : Tried Next) (trial : Trial) : Type
    0 where
  pub noted : trial.noted ≡ tried.noted
  pub taken : Takes parts old new tried.made trial.taken

-- ---- several steps

-- the state after steps one after the other, or the fault of the first that doesn't apply
abbrev pub after : Result State StepFault → (State → Result State StepFault) →
    Result State StepFault
after (Ok state) next = next state
after (Err fault) next = Err fault

abbrev pub after_all : RuleParts → State → List Step → Result State StepFault
after_all parts state [] = Ok state
after_all parts state (step ∷ steps) =
    after (applied parts state step) (λ next. after_all parts next steps)

-- each certificate of the steps is at most 174 deep
abbrev pub AreDeep : List Step → Type 0
AreDeep steps = All (λ step. All (λ cert. cert_depth cert ≤ most_deep) (certificates step)) steps

-- the steps have the moves that settle a state, and make the settled state of it; the moves left
-- and the note are the same
pub record IsSettled (parts : RuleParts) (old new : State) (settled : settling.Settled)
    (found : Settled) : Type 0 where
  pub moves : map move_of found.steps ≡ settled.moves
  pub state : new ≡ settled.state
  pub left : found.left ≡ settled.left
  pub note : found.note ≡ settled.note
  pub applies : after_all parts old found.steps ≡ Ok new
  pub deep : AreDeep found.steps
