use Rattle.std.proofs.Common.{◌≡◌, take}
use Rattle.c_ast.proofs.expr.+clones.Given as goal

abbrev pub invariant-copy_all-loop-expression : goal.invariant-copy_all-loop-expression
invariant-copy_all-loop-expression l = l.copies ≡ take l.expression-index l.expression-items
