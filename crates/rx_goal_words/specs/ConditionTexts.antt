-- A condition of a step: a row that it asks.
use Rattle.std.specs.Prelude.{ℕ, Option, Some, None, Ok, Err, List, [], ◌++◌, codes, decimal, flat_map, slice_get}
use Rattle.rx_inference.specs.Forming.{Forming}
use Rattle.rx_inference.specs.Kinds.{formed}
use Rattle.rx_inference.specs.States.{State}
use Rattle.rx_inference.specs.declared.formed_step.Asked.{Asked}
use Rattle.rx_inference.specs.declared.formed_step.Asked.TheVariants.{Refuted, Rows}
use Rattle.rx_inference.specs.declared.formed_step.FormedStep.{FormedStep}
use Rattle.rx_inference.specs.declared.formed_step.Group.{Group}
use Rattle.rx_inference.specs.declared.step.Step.{Step}
use Rattle.rx_row.specs.declared.row.Row.{Row}
use Rattle.rx_term.specs.declared.rule_set.RuleParts.{RuleParts}
use Rattle.rx_text.specs.Rows.{row_text}

-- the row with this number, counted from 0 over all groups in order
abbrev pub row_in : List Group → ℕ → Option Row
row_in groups number = slice_get (flat_map (λ (group : Group). group.rows) groups) number

abbrev pub row_line : ℕ → Option Row → List ℕ
row_line number None = []
row_line number (Some row) =
    codes "  condition " ++ (decimal number ++ (codes ": " ++ (row_text row ++ codes "\n")))

-- that condition among those that are asked
abbrev pub asked_text : Asked → ℕ → List ℕ
asked_text Refuted number = codes "  condition 0: no integers meet the rows of the goal\n"
asked_text (Rows groups) number = row_line number (row_in groups number)

-- that condition of a step that is formed; nothing of another
abbrev pub formed_text : Forming FormedStep → ℕ → List ℕ
formed_text (Ok f) number = asked_text f.asked number
formed_text (Err end) number = []

-- the condition with this number of a step on a state
abbrev pub condition_text : RuleParts → State → Step → ℕ → List ℕ
condition_text parts state step number =
    formed_text (formed parts (slice_get state.goals 0) state.hypotheses step) number
