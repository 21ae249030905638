-- One move of settling after others: what is recorded of it.
use Rattle.std.specs.Prelude.{◌≡◌, ◌-◌, ◌++◌, Bool, true, false, Option, Some, None, List, [], ◌∷◌}
use Rattle.std.specs.Option.{option_or}
use Rattle.rx_row.specs.declared.row.Row.{Row}
use Rattle.rx_term.specs.declared.rule_set.RuleParts.{RuleParts}
use Rattle.rx_inference.specs.States.{State}
use Rattle.rx_inference.specs.declared.step.Step.{Step}
use Rattle.rx_settle.specs.Answers.{Takes}
use Rattle.rx_settle.specs.Settling.{rows_if, settling_move}
use Rattle.rx_settle.specs.declared.settled.Settled.{Settled}
use Rattle.rx_settle.specs.declared.trial.Trial.{Trial}

-- the rows are noted, unless something was noted before
abbrev pub with_note : Settled → Option (List Row) → Settled
with_note settled rows = record settled { note = option_or settled.note rows }

-- and a step is added, of those that are left
abbrev pub with_step : Settled → Step → Settled
with_step settled step =
    record settled { steps = settled.steps ++ step ∷ []; left = settled.left - 1 }

-- what is recorded where a step was taken, or none
abbrev pub recorded : Settled → Option Step → Settled
recorded settled None = settled
recorded settled (Some step) = with_step settled step

-- the rows are noted where something was noted, and the step that was taken is added; whether there
-- is one
abbrev pub rows_where : Bool → Option (List Row) → Option (List Row)
rows_where false rows = None
rows_where true rows = rows

abbrev pub IsThere : Option Step → Bool → Type 0
IsThere None made = made ≡ false
IsThere (Some step) made = made ≡ true

-- the trial is recorded with those rows, and it is known whether it took a step
pub record Records (before : Settled) (rows : Option (List Row)) (trial : Trial) (after : Settled)
    (made : Bool) : Type 0 where
  pub after_it : after ≡ recorded (with_note before (rows_where trial.noted rows)) trial.taken
  pub told : IsThere trial.taken made

-- a move was made and added, or none was
abbrev pub Advances : RuleParts → State → State → Settled → Settled → Bool → Type 0
Advances parts old new before after true = (step : Step)
    × (Takes parts old new (settling_move parts old).made (Some step)
    × after ≡ with_step (with_note before (rows_if (settling_move parts old).noted old.goals)) step)
Advances parts old new before after false =
    Takes parts old new (settling_move parts old).made None
    × after ≡ with_note before (rows_if (settling_move parts old).noted old.goals)
