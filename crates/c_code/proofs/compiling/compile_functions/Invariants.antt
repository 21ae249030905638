use Rattle.std.proofs.Common.{take}
use Rattle.c_code.specs.Flat.{FunctionsLead}
use Rattle.c_code.proofs.compiling.compile_functions.Given as goal

abbrev pub invariant-loop-function : goal.invariant-loop-function
invariant-loop-function l =
    FunctionsLead l.fn.ops.items l.ops.items l.entries.items
    (take l.function-index l.function-items)
