use Rattle.std.proofs.Common.{◌≡◌, ◌++◌, map, drop}
use Rattle.std.specs.List.{concat}
use Rattle.c_ast.specs.Calls.{calls_in}
use Rattle.c_ast.proofs.stmt.+stmt_calls.Given as goal

abbrev pub invariant-push_calls_of_all-loop-statement :
    goal.invariant-push_calls_of_all-loop-statement
invariant-push_calls_of_all-loop-statement l =
    l.called ++ concat (map calls_in (drop l.statement-index l.statements))
    ≡ l.initial.called ++ concat (map calls_in l.statements)
