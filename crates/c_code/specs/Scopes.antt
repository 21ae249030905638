-- What adds no slot: a statement that declares nothing, or only in a scope of its own. After it
-- there are no more slots than before.
use Rattle.std.specs.Prelude.{ℕ, ◌≤◌, length, List, map}
use Rattle.c_ast.specs.declared.stmt.Stmt.{Stmt}
use Rattle.c_meaning.specs.Outcomes.{State, Flow, Next, Break, Continue, Return}
use Rattle.c_meaning.specs.Runs.{Run, Value, DivisionError, More, Over}
use Rattle.c_meaning.specs.CountedExpressions.{Calls}
use Rattle.c_meaning.specs.CountedStatements.{Execution, in_order, stmt}

-- no more than n slots are left; after a return none is read any more
abbrev pub FlowWithin : ℕ → Flow → Type 0
FlowWithin count (Next s) = length s ≤ count
FlowWithin count (Break s) = length s ≤ count
FlowWithin count (Continue s) = length s ≤ count
FlowWithin count (Return x) = Unit {0}

abbrev pub RunWithin : ℕ → Run Flow → Type 0
RunWithin count (Value flow left) = FlowWithin count flow
RunWithin count DivisionError = Unit {0}
RunWithin count More = Unit {0}
RunWithin count Over = Unit {0}

-- from no more slots, no more slots
abbrev pub StaysWithin : Execution → Type 0
StaysWithin part =
    (count left : ℕ) (s : State) → length s ≤ count → RunWithin count (part left s)

-- a statement that adds no slot, whatever calls lead to
abbrev pub AddsNoSlot : Stmt → Type 0
AddsNoSlot t = (calls : Calls) → StaysWithin (stmt calls t)

-- statements that add no slot
abbrev pub AddNoSlots : List Stmt → Type 0
AddNoSlots ts = (calls : Calls) → StaysWithin (in_order (map (stmt calls) ts))
