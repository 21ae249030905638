-- What comes of trying a move: it applies where it is formed and the refuter shows what it asks.
-- Where something passes the limits it doesn't, and that is noted.
use Rattle.std.specs.Prelude.{◌||◌, Bool, Option, Some, None, Ok, Err, List, [], ◌∷◌, slice_get}
use Rattle.rx_cert.specs.Findings.{Said, Yes, and_also}
use Rattle.rx_cert.specs.Showing.{all_shown}
use Rattle.rx_row.specs.declared.row.Row.{Row}
use Rattle.rx_solve.specs.Attempts.{Tried, beyond, fails, where_shown}
use Rattle.rx_solve.specs.Refuter.{refuted}
use Rattle.rx_term.specs.declared.rule_set.RuleParts.{RuleParts}
use Rattle.rx_inference.specs.Forming.{Forming}
use Rattle.rx_inference.specs.Judging.{first_rows, given_to}
use Rattle.rx_inference.specs.Kinds.{formed}
use Rattle.rx_inference.specs.States.{State, taken}
use Rattle.rx_inference.specs.declared.form_end.FormEnd.TheVariants as form_end
use Rattle.rx_inference.specs.declared.formed_step.Asked.{Asked}
use Rattle.rx_inference.specs.declared.formed_step.Asked.TheVariants.{Refuted, Rows}
use Rattle.rx_inference.specs.declared.formed_step.FormedStep.{FormedStep}
use Rattle.rx_inference.specs.declared.formed_step.Group.{Group}
use Rattle.rx_moves.specs.Moves.{Move, step_of}

-- a move, and the state after it
pub record Next : Type 0 where
  pub move : Move
  pub state : State

-- the rows of the groups are shown, group by group, each under the rows that it is given
abbrev pub groups_shown : List Row → List Row → List Group → Said
groups_shown old new [] = Yes
groups_shown old new (g ∷ gs) =
    and_also (all_shown refuted (given_to old new g.under) g.rows) (groups_shown old new gs)

-- what a step asks is shown, under the rows of the goal and of the first new one
unfoldable pub asked_shown : List Row → List Row → Asked → Said
asked_shown old new Refuted = refuted old
asked_shown old new (Rows groups) = groups_shown old new groups

-- the move, where what it asks is shown
abbrev pub next_if_shown : State → Move → FormedStep → Tried Next
next_if_shown state move f =
    where_shown (asked_shown (first_rows state.goals) (first_rows f.goals) f.asked)
    (record { move = move; state = taken state f })

-- of what forming comes to
abbrev pub next_if_formed : State → Move → Forming FormedStep → Tried Next
next_if_formed state move (Ok f) = next_if_shown state move f
next_if_formed state move (Err form_end.Large) = beyond
next_if_formed state move (Err form_end.NoGoal) = fails
next_if_formed state move (Err form_end.WrongShape) = fails
next_if_formed state move (Err form_end.NoSuchRule) = fails
next_if_formed state move (Err form_end.NoMemory) = fails

-- the move, tried on the first goal of a state
unfoldable pub attempt : RuleParts → State → Move → Tried Next
attempt parts state move =
    next_if_formed state move (formed parts (slice_get state.goals 0) state.hypotheses
    (step_of move))

-- ---- what is tried in two stages

-- something was noted before
abbrev pub noting : {A : Type 0} → Bool → Tried A → Tried A
noting before later = record { made = later.made; noted = before || later.noted }

abbrev pub then_by : {A B : Type 0} → Option A → Bool → (A → Tried B) → Tried B
then_by None before next = record { made = None; noted = before }
then_by (Some x) before next = noting before (next x)

-- first something is made, and then what is tried with it
abbrev pub then_try : {A B : Type 0} → Tried A → (A → Tried B) → Tried B
then_try first next = then_by first.made first.noted next
