use Rattle.std.proofs.Common.{◌≡◌, max, map, drop}
use Rattle.c_ast.specs.Height.{greatest, stmt_height}
use Rattle.c_ast.proofs.stmt.+stmt_heights.Given as goal

abbrev pub invariant-greatest_height-loop-statement : goal.invariant-greatest_height-loop-statement
invariant-greatest_height-loop-statement l =
    max l.most (greatest (map stmt_height (drop l.statement-index l.statements))) ≡
    greatest (map stmt_height l.statements)
