-- A move keeps as many tasks as goals.
use Rattle.std.proofs.Common.{◌≡◌, ◌∙◌, ap, subst, refl, arith, ℕ, ◌-◌, ◌≤◌, false, Option, Some, None, Ok, Err, List, drop, length, length-append, length-drop, replicate}
use Rattle.std.specs.Prelude.{option_and_then, option_map, slice_get}
use Rattle.std.specs.Option.{option_or}
use Rattle.std.proofs.lemmas.List.{length-replicate}
use Rattle.rx_term.specs.declared.rule_set.RuleParts.{RuleParts}
use Rattle.rx_inference.specs.Forming.{Forming}
use Rattle.rx_inference.specs.Judging.{Fault, Judgement, Shown, certificates, first_rows, judged}
use Rattle.rx_inference.specs.Kinds.{formed}
use Rattle.rx_inference.specs.States.{State, applied, carried_out, taken, taken_if}
use Rattle.rx_inference.specs.declared.formed_step.FormedStep.{FormedStep}
use Rattle.rx_inference.specs.declared.step.Side.{Side}
use Rattle.rx_inference.specs.declared.step.Step.{Step}
use Rattle.rx_moves.specs.Moves.{Expand, move_of}
use Rattle.rx_moves.specs.Trying.{Next, attempt}
use Rattle.rx_settle.specs.AtFirst.{at_first, using_all}
use Rattle.rx_settle.specs.Settling.{settling_move}
use Rattle.rx_settle.specs.TaskAnswers.{Makes}
use Rattle.rx_settle.specs.Tasks.{AllHaveTasks, TaskedNext, beside_move, due_first, due_move, expanding, first_task, stated_move, tasked_move, tasks_after, with_task}
use Rattle.rx_settle.specs.declared.due.Due.{Due}
use Rattle.rx_settle.specs.declared.tasked.Tasked.{Tasked}
use Rattle.rx_settle.specs.declared.uses.Matching.TheVariants.{BothSides}

-- ---- goals

-- a step takes no goal away but the first
module _ (parts : RuleParts) (old new : State) (step : Step) where
  taken_so : (f : FormedStep) (j : Judgement) → taken_if old f j ≡ Ok new →
      length (drop 1 old.goals) ≤ length new.goals
  taken_so f Shown e =
      let is : taken old f ≡ new = cc in
      let all = length-append f.goals (drop 1 old.goals) in
      let P : State → Type 0 = λ s. length (drop 1 old.goals) ≤ length s.goals in
      subst P is (omega arith)
  taken_so f (Fault fault) e = absurd cc

  carried_so : (x : Forming FormedStep) → carried_out old (certificates step) x ≡ Ok new →
      length (drop 1 old.goals) ≤ length new.goals
  carried_so (Ok f) e =
      taken_so f (judged (first_rows old.goals) (first_rows f.goals) f.asked (certificates step)) e
  carried_so (Err end) e = absurd cc

  others_stay : applied parts old step ≡ Ok new → length (drop 1 old.goals) ≤ length new.goals
  others_stay e = carried_so (formed parts (slice_get old.goals 0) old.hypotheses step) e

-- ---- tasks

module _ (parts : RuleParts) (at : Tasked) where
  -- the tasks after a move are those after a step, by some task
  record Given (next : TaskedNext) : Type 0 where
    task : List Side
    tasks : next.after.tasks ≡
        tasks_after task at.tasks (length at.state.goals) (length next.after.state.goals)

  mapped_given : (task : List Side) (m : Option Next) (next : TaskedNext) →
      option_map (with_task task at) m ≡ Some next → Given next
  mapped_given task None next e = cc
  mapped_given task (Some n) next e =
      let is : with_task task at n ≡ next = cc in
      subst (λ (x : TaskedNext). Given x) is (record { task = task; tasks = refl })

  due_given : (o : Option Due) (next : TaskedNext) →
      option_and_then (expanding parts at) o ≡ Some next → Given next
  due_given None next e = cc
  due_given (Some due) next e =
      mapped_given due.rest (attempt parts at.state (Expand due.side false)).made next e

  abbrev AreGiven : Option TaskedNext → Type 0
  AreGiven m = (next : TaskedNext) → m ≡ Some next → Given next

  either_given : (m later : Option TaskedNext) → AreGiven m → AreGiven later →
      AreGiven (option_or m later)
  either_given None later here there next e = there next e
  either_given (Some n) later here there next e = here next e

  move_given : AreGiven (tasked_move parts at)
  move_given =
      either_given (stated_move parts at) (option_or (beside_move parts at) (due_move parts at))
      (mapped_given (first_task at) (settling_move parts at.state).made)
      (either_given (beside_move parts at) (due_move parts at)
      (mapped_given (first_task at)
      (at_first (using_all parts at.state BothSides) at.state.goals).made)
      (due_given (due_first at)))

count_after : (task : List Side) (tasks : List (List Side)) (before now : ℕ) →
    length tasks ≡ before → before - 1 ≤ now → length (tasks_after task tasks before now) ≡ now
count_after task tasks before now e h =
    let all = length-append (replicate (now - (before - 1)) task) (drop 1 tasks) in
    let new = length-replicate (now - (before - 1)) task in
    let others = length-drop 1 tasks in
    omega arith

-- as many tasks as goals there are after it
pub stay : (parts : RuleParts) (old new : Tasked) (step : Step) → AllHaveTasks old →
    Makes parts old new (tasked_move parts old) (Some step) → AllHaveTasks new
stay parts old new step each makes =
    let given = move_given parts old (record { move = move_of step; after = new }) makes.0 in
    let fewer = others_stay parts old.state new.state step makes.1.applies in
    let others = length-drop 1 old.state.goals in
    ap length given.tasks ∙
    count_after given.task old.tasks (length old.state.goals) (length new.state.goals) each
    (omega arith)
