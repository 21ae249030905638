-- What the answers say of moves that are tried on a goal.
use Rattle.std.specs.Prelude.{◌≡◌, ◌≤◌, All, Bool, true, Option, Some, None, Result, Ok, Err, is_some, slice_get}
use Rattle.rx_cert.specs.Depth.{cert_depth}
use Rattle.rx_solve.specs.Attempts.{Tried}
use Rattle.rx_solve.specs.Bounds.{most_deep}
use Rattle.rx_term.specs.declared.rule.Equation.{Equation}
use Rattle.rx_term.specs.declared.rule_set.RuleParts.{RuleParts}
use Rattle.rx_inference.specs.Judging.{certificates}
use Rattle.rx_inference.specs.States.{State, applied, taken}
use Rattle.rx_inference.specs.declared.step.Step.{Step}
use Rattle.rx_moves.specs.Moves.{move_of}
use Rattle.rx_moves.specs.Trying.{Next}
use Rattle.rx_moves.specs.declared.found.Found.{Found}
use Rattle.rx_moves.specs.declared.found.Ready.{Ready}

-- the step makes the new state of the old one: its certificates show what it asks, each at most 174
-- deep
pub record IsTaken (parts : RuleParts) (old new : State) (step : Step) : Type 0 where
  pub applies : applied parts old step ≡ Ok new
  pub deep : All (λ cert. cert_depth cert ≤ most_deep) (certificates step)

-- no move applies; or that of this step does, and it makes the state that it leads to
abbrev pub Gives : RuleParts → State → Option Next → Option Ready → Type 0
Gives parts state made None = made ≡ None
Gives parts state made (Some ready) =
    (made ≡ Some (record { move = move_of ready.step; state = taken state ready.made })) ×
    IsTaken parts state (taken state ready.made) ready.step

-- the step that is found, and the note, are those of what was tried
pub record IsFound (parts : RuleParts) (state : State) (tried : Tried Next) (found : Found) : Type 0
  where
    pub noted : found.noted ≡ tried.noted
    pub gives : Gives parts state tried.made found.ready

-- so at each state that begins with the goal
abbrev pub IsFoundAt : RuleParts → Equation → (State → Tried Next) → Found → Type 0
IsFoundAt parts goal tried found =
    (state : State) → Some goal ≡ slice_get state.goals 0 →
    IsFound parts state (tried state) found

-- no move applies, and that is noted or not; or one does, and what is found is as before
abbrev pub IsUnready : Found → Result Bool Found → Type 0
IsUnready found (Ok noted) = found ≡ record { ready = None; noted = noted }
IsUnready found (Err same) = (same ≡ found) × (is_some same.ready ≡ true)
