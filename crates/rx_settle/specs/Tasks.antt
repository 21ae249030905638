-- Settling with tasks. A task is a list of sides that are still to be unfolded at a goal: each, in
-- order, where nothing else applies there. And descendants: the goals of which nothing comes so.
use Rattle.std.specs.Prelude.{◌≡◌, ℕ, zero, suc, ◌+◌, ◌-◌, ◌++◌, nat_le, false, if◌then◌else◌, is_some, Option, Some, None, List, [], ◌∷◌, drop, length, option_and_then, option_map, replicate, slice_get, unwrap_or}
use Rattle.std.specs.Option.{option_or}
use Rattle.rx_term.specs.Meaning.{redex_of}
use Rattle.rx_term.specs.declared.rule.Equation.{Equation}
use Rattle.rx_term.specs.declared.rule.Rule.{Rule}
use Rattle.rx_term.specs.declared.rule_set.RuleParts.{RuleParts}
use Rattle.rx_inference.specs.Pieces.{side_of}
use Rattle.rx_inference.specs.States.{State}
use Rattle.rx_inference.specs.declared.step.Side.{Side}
use Rattle.rx_moves.specs.Moves.{Move, Expand}
use Rattle.rx_moves.specs.Trying.{Next, attempt}
use Rattle.rx_settle.specs.AtFirst.{at_first, using_all}
use Rattle.rx_settle.specs.Settling.{most_moves, settling_move}
use Rattle.rx_settle.specs.declared.due.Due.{Due}
use Rattle.rx_settle.specs.declared.tasked.Tasked.{Tasked}
use Rattle.rx_settle.specs.declared.uses.Matching.TheVariants.{BothSides}

-- ---- tasks

-- the tasks after a step on the first goal, by how many goals there were before it and are now:
-- each goal that came of the first one has this task, and the others keep theirs
abbrev pub tasks_after : List Side → List (List Side) → ℕ → ℕ → List (List Side)
tasks_after task tasks before now = replicate (now - (before - 1)) task ++ drop 1 tasks

-- each goal has this task
abbrev pub each_with : List Side → State → Tasked
each_with task state = record { state = state; tasks = replicate (length state.goals) task }

-- there are as many tasks as goals
abbrev pub AllHaveTasks : Tasked → Type 0
AllHaveTasks at = length at.tasks ≡ length at.state.goals

-- the task of the first goal
abbrev pub first_task : Tasked → List Side
first_task at = unwrap_or (slice_get at.tasks 0) []

-- the first side of a task that has a redex, and the sides after it
abbrev pub side_due : Equation → List Side → Option Due
side_due goal [] = None
side_due goal (side ∷ sides) =
    if is_some (redex_of (side_of side goal)) then Some (record { side = side; rest = sides })
    else side_due goal sides

-- so at the first goal
abbrev pub due_first : Tasked → Option Due
due_first at = option_and_then (λ goal. side_due goal (first_task at)) (slice_get at.state.goals 0)

-- ---- moves

-- a move, with the state and the tasks after it
pub record TaskedNext : Type 0 where
  pub move : Move
  pub after : Tasked

-- so where the goals that come of the first one have this task
abbrev pub with_task : List Side → Tasked → Next → TaskedNext
with_task task at next = record {
  move = next.move;
  after = record {
    state = next.state;
    tasks = tasks_after task at.tasks (length at.state.goals) (length next.state.goals);
  };
}

module _ (parts : RuleParts) where
  -- the move that settling makes without tasks; the new goals have the task of the first goal
  abbrev pub stated_move : Tasked → Option TaskedNext
  stated_move at = option_map (with_task (first_task at) at) (settling_move parts at.state).made

  -- a hypothesis at the first goal, where the other side may set its variables too; the new goals
  -- have the task of the first goal
  abbrev pub beside_move : Tasked → Option TaskedNext
  beside_move at =
      option_map (with_task (first_task at) at)
      (at_first (using_all parts at.state BothSides) at.state.goals).made

  -- Expand of the side that is due, without keeping; the new goals have the sides after it
  abbrev pub expanding : Tasked → Due → Option TaskedNext
  expanding at due =
      option_map (with_task due.rest at) (attempt parts at.state (Expand due.side false)).made

  abbrev pub due_move : Tasked → Option TaskedNext
  due_move at = option_and_then (expanding at) (due_first at)

  -- the first of these three that applies
  abbrev pub tasked_move : Tasked → Option TaskedNext
  tasked_move at = option_or (stated_move at) (option_or (beside_move at) (due_move at))

-- ---- settling

-- the moves, the state and the tasks after them, and how many more moves might be made
pub record TaskedSettled : Type 0 where
  pub moves : List Move
  pub after : Tasked
  pub left : ℕ

-- a first move and what follows it, or no move
abbrev pub moved_on : Tasked → ℕ → Option TaskedNext → (Tasked → TaskedSettled) → TaskedSettled
moved_on at left None later = record { moves = []; after = at; left = 1 + left }
moved_on at left (Some next) later =
    let settled = later next.after in
    record { moves = next.move ∷ settled.moves; after = settled.after; left = settled.left }

-- settled by n moves at most
unfoldable pub settle_tasked : RuleParts → ℕ → Tasked → TaskedSettled
settle_tasked parts zero at = record { moves = []; after = at; left = 0 }
settle_tasked parts (suc left) at =
    moved_on at left (tasked_move parts at) (settle_tasked parts left)

-- ---- descendants

-- the first goal is taken away, and its task
abbrev pub without_first : Tasked → Tasked
without_first at =
    record {
      state = record at.state { goals = drop 1 at.state.goals };
      tasks = drop 1 at.tasks;
    }

-- a move and what comes after it; or else the first goal, and what comes of the others
abbrev pub turned : Tasked → List Equation → Option TaskedNext →
    (Tasked → Option (List Equation)) → Option (List Equation)
turned at [] next later = Some []
turned at (goal ∷ goals) (Some next) later = later next.after
turned at (goal ∷ goals) None later =
    option_map (λ more. goal ∷ more) (later (without_first at))

-- no goal, where none is left
abbrev pub none_where_done : List Equation → Option (List Equation)
none_where_done [] = Some []
none_where_done (goal ∷ goals) = None

-- within n turns, each of which is a move or the taking away of a goal at which none applies: the
-- goals that are taken away, in order, if no other is left then
unfoldable pub descend : RuleParts → ℕ → Tasked → Option (List Equation)
descend parts zero at = none_where_done at.state.goals
descend parts (suc turns) at =
    turned at at.state.goals (tasked_move parts at) (descend parts turns)

-- how many descendants a goal has at most
abbrev pub most_descendants : ℕ
most_descendants = 24

-- the goals, unless there are more
abbrev pub if_few : List Equation → Option (List Equation)
if_few goals = if nat_le (length goals) most_descendants then Some goals else None

-- the goals at which settling sticks where a goal is alone with a task, under these hypotheses
abbrev pub descendants : RuleParts → List Rule → List Side → Equation → Option (List Equation)
descendants parts hypotheses task goal =
    option_and_then if_few (descend parts most_moves
    (each_with task (record { goals = goal ∷ []; hypotheses = hypotheses })))
