-- What a run of code comes to, and how its steps and the run itself end.
use Rattle.std.specs.Prelude.{◌≡◌, ℕ, ◌+◌, ◌-◌, ◌<◌, ◌≤◌, Result, Ok, Err, List, fold, take, ℤ}
use Rattle.c_ast.specs.declared.program.Resolved.{Resolved}
use Rattle.c_meaning.specs.Counted.{counted}
use Rattle.c_machine.specs.Ends.{EndsBy}
use Rattle.c_meaning.specs.CountedExpressions.{Calls}
use Rattle.c_code.specs.Flat.{Back, Rest, at, code_run, rests}
use Rattle.c_meaning.specs.Runs.{Run, Value}
use Rattle.c_code.specs.Stores.{Kept, given_back, pushed}
use Rattle.c_code.specs.declared.code.Op.{Op}
use Rattle.c_machine.specs.declared.machine.Caller.{Caller}
use Rattle.c_machine.specs.declared.machine.Delivered.{Delivered}
use Rattle.c_machine.specs.declared.machine.Delivered.TheVariants as delivered
use Rattle.c_machine.specs.declared.machine.Reached.{Reached}
use Rattle.c_machine.specs.declared.machine.Reached.TheVariants as reached
use Rattle.c_machine.specs.declared.stop.Stop.{Stop}

-- no caller waits: the integer is that of the run
abbrev pub done : Back
done x k left = Value x left

-- a caller goes on with the integer, in its own slots
abbrev pub resumed : Calls → List Op → Back → Caller → Back
resumed calls ops back caller x k =
    code_run calls back ops caller.next (pushed (given_back k caller.base) x)

-- what an integer comes to, where these callers wait, the innermost as the last
abbrev pub back_to : Calls → List Op → List Caller → Back
back_to calls ops = fold (resumed calls ops) done

-- what a run comes to
abbrev pub machine_run : Resolved → List Op → List Caller → ℕ → Kept → ℕ → Run ℤ
machine_run program ops callers =
    code_run (counted program) (back_to (counted program) ops callers) ops

-- where a value led that went to a destination
abbrev pub Delivers : List Rest → Back → (ℕ → Run ℤ) → Result Delivered Stop → Kept → ℕ → Type 0
Delivers rests back run (Ok (delivered.On p)) k left = run left ≡ at rests p k left
Delivers rests back run (Ok (delivered.Back x)) k left = run left ≡ back x k left
Delivers rests back run (Err e) k left = EndsBy e (run left)

-- where a step from the position `here` led: what follows is what the run comes to; what is not lower
-- is lost
abbrev pub Steps : ℕ → Resolved → List Op → Run ℤ → Result Reached Stop → List Caller → Kept → ℕ →
    Type 0
Steps here program ops run (Ok (reached.On p)) callers k left =
    run ≡ code_run (counted program) (back_to (counted program) ops callers) (take here ops) p k left
Steps here program ops run (Ok (reached.Round p)) callers k left =
    run ≡ machine_run program ops callers p k (left - 1)
Steps here program ops run (Ok (reached.Back p)) callers k left =
    run ≡ machine_run program ops callers p k left
Steps here program ops run (Ok (reached.Ended x)) callers k left = run ≡ Value x left
Steps here program ops run (Err e) callers k left = EndsBy e run

-- a step from code of this size goes on, takes a round, or goes back to a caller
abbrev pub Falls : ℕ → Result Reached Stop → ℕ → ℕ → ℕ → Type 0
Falls size (Ok (reached.On q)) old new left = new ≡ old
Falls size (Ok (reached.Round q)) old new left = (0 < left) × (new ≤ old + 1) × (q < size)
Falls size (Ok (reached.Back q)) old new left = new + 1 ≡ old
Falls size (Ok (reached.Ended x)) old new left = Unit {0}
Falls size (Err e) old new left = Unit {0}
