use Rattle.std.proofs.Common.{◌≡◌, ◌+◌, ◌*◌, map, drop}
use Rattle.c_ast.proofs.stmt.Stmt.TheLaws.{the_size}
use Rattle.c_ast.specs.declared.stmt.Stmt.TheVariants.{If, While, DoWhile, For}
use Rattle.c_scope.specs.Statements.{in_order, resolved_stmt}
use Rattle.c_names.specs.Views.{model_of}
use Rattle.c_scope.proofs.Sequences.{behind}
use Rattle.c_scope.proofs.statements.+statements.Given as goal

-- what was resolved, and the statements that are left, give what all statements give
abbrev pub invariant-in_order-loop-statement : goal.invariant-in_order-loop-statement
invariant-in_order-loop-statement l =
    behind l.resolved (in_order (map (resolved_stmt l.definitions.names.now
    l.definitions.functions.now) (drop l.statement-index l.statement-items)) (model_of l.scope)
    l.in_loop)
    ≡ in_order (map (resolved_stmt l.definitions.names.now l.definitions.functions.now)
    l.statement-items) (model_of l.initial.scope) l.in_loop

-- the measures: the size of what is resolved, and which of the functions calls which at one size
abbrev pub decreases-resolve_stmt : goal.decreases-resolve_stmt
decreases-resolve_stmt l = 4 * goal.size-resolve_stmt l + 1

abbrev pub decreases-if_statement : goal.decreases-if_statement
decreases-if_statement l = 4 * the_size (If l.test.now l.inner.now l.other.now)

abbrev pub decreases-while_loop : goal.decreases-while_loop
decreases-while_loop l = 4 * the_size (While l.test.now l.inner.now)

abbrev pub decreases-do_loop : goal.decreases-do_loop
decreases-do_loop l = 4 * the_size (DoWhile l.inner.now l.test.now)

abbrev pub decreases-for_loop : goal.decreases-for_loop
decreases-for_loop l = 4 * the_size (For l.first.now l.test.now l.change.now l.inner.now)

abbrev pub decreases-body_of_for : goal.decreases-body_of_for
decreases-body_of_for l = 4 * goal.size-body_of_for l + 3

abbrev pub decreases-resolve_substatement : goal.decreases-resolve_substatement
decreases-resolve_substatement l = 4 * goal.size-resolve_substatement l + 2

abbrev pub decreases-resolve_optional_substatement : goal.decreases-resolve_optional_substatement
decreases-resolve_optional_substatement l = 4 * goal.size-resolve_optional_substatement l + 2

abbrev pub decreases-in_block : goal.decreases-in_block
decreases-in_block l = 4 * goal.size-in_block l + 3

abbrev pub decreases-in_order : goal.decreases-in_order
decreases-in_order l = 4 * goal.size-in_order l + 2
