use Rattle.std.proofs.Common.{◌≡◌, take}
use Rattle.c_ast.proofs.program.copy_functions.Given as goal

abbrev pub invariant-loop-function : goal.invariant-loop-function
invariant-loop-function l = l.copies ≡ take l.function-index l.function-items
