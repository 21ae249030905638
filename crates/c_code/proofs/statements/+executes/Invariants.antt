use Rattle.std.proofs.Common.{drop}
use Rattle.c_code.specs.Flat.{Leads, sequence_run}
use Rattle.c_code.proofs.statements.+executes.Given as goal

abbrev pub invariant-compile_sequence-loop-i : goal.invariant-compile_sequence-loop-i
invariant-compile_sequence-loop-i l =
    Leads l.fn.ops.items l.ops.items l.next (sequence_run l.fn.ops.items l.exits
    (drop l.i l.statements))
