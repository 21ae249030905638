use Rattle.std.proofs.Common.{◌≡◌, max, map, drop}
use Rattle.c_ast.specs.Height.{greatest, expr_height}
use Rattle.c_ast.proofs.expr.+expr_height.Given as goal

abbrev pub invariant-loop-argument : goal.invariant-loop-argument
invariant-loop-argument l =
    max l.most (greatest (map expr_height (drop l.argument-index l.argument-items))) ≡
    greatest (map expr_height l.argument-items)
