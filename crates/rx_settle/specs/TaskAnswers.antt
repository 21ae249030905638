-- What the answers say of calls that make moves at goals with tasks.
use Rattle.std.specs.Prelude.{◌≡◌, ◌-◌, ◌==◌, ◌||◌, ◌++◌, nat_lt, Bool, Option, Some, None, Ok, List, [], ◌∷◌, length, map, option_and_then, option_map}
use Rattle.rx_term.specs.declared.rule.Equation.{Equation}
use Rattle.rx_term.specs.declared.rule_set.RuleParts.{RuleParts}
use Rattle.rx_inference.specs.declared.step.Step.{Step}
use Rattle.rx_moves.specs.Answers.{IsTaken}
use Rattle.rx_moves.specs.Moves.{move_of}
use Rattle.rx_settle.specs.Answers.{AreDeep, after_all}
use Rattle.rx_settle.specs.Tasks.{TaskedNext, TaskedSettled, descend, if_few, most_descendants, none_where_done}
use Rattle.rx_settle.specs.declared.descending.Descent.{Descent}
use Rattle.rx_settle.specs.declared.tasked.Tasked.{Tasked}
use Rattle.rx_settle.specs.declared.tasks.TaskedSteps.{TaskedSteps}

-- no step is made and all is as before; or this step is, and it makes the new state and tasks
abbrev pub Makes : RuleParts → Tasked → Tasked → Option TaskedNext → Option Step → Type 0
Makes parts old new made None = (made ≡ None) × (new ≡ old)
Makes parts old new made (Some step) =
    (made ≡ Some (record { move = move_of step; after = new })) ×
    IsTaken parts old.state new.state step

-- the steps have the moves that settle, and make the settled state and its tasks; the moves left
-- are the same
pub record AreTaskedSteps (parts : RuleParts) (old new : Tasked) (settled : TaskedSettled)
    (found : TaskedSteps) : Type 0 where
  pub moves : map move_of found.steps ≡ settled.moves
  pub after : new ≡ settled.after
  pub left : found.left ≡ settled.left
  pub applies : after_all parts old.state found.steps ≡ Ok new.state
  pub deep : AreDeep found.steps

-- and one more step, of those that are left
abbrev pub with_one_more : TaskedSteps → Step → TaskedSteps
with_one_more found step =
    record { steps = found.steps ++ step ∷ []; left = found.left - 1 }

-- what comes of a state after goals that were taken away
abbrev pub after_stuck : List Equation → Option (List Equation) → Option (List Equation)
after_stuck stuck found = option_map (λ more. stuck ++ more) found

-- the goals that were taken away, and those that will be in the turns that are left
abbrev pub found_from : RuleParts → Descent → Option (List Equation)
found_from parts descent = after_stuck descent.stuck (descend parts descent.left descent.at)

-- nothing more is to be found: no turn is left, or no goal, or there are too many already
abbrev pub is_over : Descent → Bool
is_over descent =
    descent.left == 0 || length descent.at.state.goals == 0 ||
    nat_lt most_descendants (length descent.stuck)

-- what is found then
abbrev pub found_at_end : Descent → Option (List Equation)
found_at_end descent =
    option_and_then if_few (after_stuck descent.stuck (none_where_done descent.at.state.goals))
