use Rattle.std.proofs.Common.{◌≡◌, ◌++◌, map, drop}
use Rattle.std.specs.List.{concat}
use Rattle.c_ast.specs.Calls.{calls}
use Rattle.c_ast.proofs.expr.Expr.+push_calls.Given as goal

abbrev pub invariant-loop-argument : goal.invariant-loop-argument
invariant-loop-argument l =
    l.called ++ concat (map calls (drop l.argument-index l.argument-items))
    ≡ l.initial.called ++ concat (map calls l.argument-items)
