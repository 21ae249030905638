use Rattle.c_assigned.proofs.FlowLaws.{Going}
use Rattle.c_assigned.proofs.statements.+flows.Given as goal

abbrev pub invariant-in_order-loop-statement : goal.invariant-in_order-loop-statement
invariant-in_order-loop-statement l =
    Going l.names l.fn.scope.items l.fn.set l.statements l.scope.items l.flow l.statement-index
