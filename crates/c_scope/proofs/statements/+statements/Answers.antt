-- A loop is resolved by its own function, which answers the same in a loop and outside.
use Rattle.c_scope.proofs.statements.+statements.Goals as goal

pub resolve_stmt-returns-in-While : goal.resolve_stmt-returns-in-While
resolve_stmt-returns-in-While t c =
    rw c.in-While.is (c.while_loop.ensures c.args.in_loop)

pub resolve_stmt-returns-in-DoWhile : goal.resolve_stmt-returns-in-DoWhile
resolve_stmt-returns-in-DoWhile t c =
    rw c.in-DoWhile.is (c.do_loop.ensures c.args.in_loop)

pub resolve_stmt-returns-in-For : goal.resolve_stmt-returns-in-For
resolve_stmt-returns-in-For t c =
    rw c.in-For.is (c.for_loop.ensures c.args.in_loop)
