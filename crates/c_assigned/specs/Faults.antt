-- The fault of a function: a variable that is read where it may have no value, or else an end that
-- may be reached without a `return`.
use Rattle.std.specs.Prelude.{ℕ, true, List, map, length, replicate, Option, Some, None}
use Rattle.c_ast.specs.declared.program.Function.{Function}
use Rattle.c_assigned.specs.Sets.{Assigned}
use Rattle.c_assigned.specs.Flows.{After, in_order, stmt_flow}
use Rattle.c_assigned.specs.declared.fault.Fault.{Fault}
use Rattle.c_assigned.specs.declared.fault.Fault.TheVariants.{MayBeUnset, MayNotReturn}
use Rattle.c_names.specs.Names.{name_at}

-- what comes of a function's body: its parameters are in scope, and assigned
abbrev pub body_flow : List ℕ → Function → After
body_flow names f =
    in_order (map (stmt_flow names) f.body) (map (name_at names) f.params)
    (Some (replicate (length f.params) true))

-- where the end is reached, the function may not return
abbrev pub at_end : ℕ → Assigned → Option Fault
at_end token None = None
at_end token (Some set) = Some (MayNotReturn token)

-- the first of the two faults: the end of the function comes after all that it reads
abbrev pub first_fault : ℕ → Option ℕ → Assigned → Option Fault
first_fault name (Some token) behind = Some (MayBeUnset token)
first_fault name None behind = at_end name behind

-- the fault of a function, where it has one
abbrev pub fault_of : List ℕ → Function → Option Fault
fault_of names f = first_fault f.name (body_flow names f).flow.unset (body_flow names f).flow.behind
