use Rattle.std.proofs.Common.{◌≡◌, take}
use Rattle.c_ast.proofs.stmt.+clones.Given as goal

abbrev pub invariant-copy_all-loop-statement : goal.invariant-copy_all-loop-statement
invariant-copy_all-loop-statement l = l.copies ≡ take l.statement-index l.statement-items
