use Rattle.std.proofs.Common.{drop}
use Rattle.c_code.specs.Flat.{Leads, arguments_run}
use Rattle.c_code.proofs.expressions.+compiles.Given as goal

abbrev pub invariant-compile_arguments-loop-i : goal.invariant-compile_arguments-loop-i
invariant-compile_arguments-loop-i l =
    Leads l.fn.ops.items l.ops.items l.at (arguments_run l.fn.ops.items l.fn.next
    (drop l.i l.arguments))
