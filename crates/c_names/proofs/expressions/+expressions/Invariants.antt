use Rattle.std.proofs.Common.{◌≡◌, map, drop}
use Rattle.c_names.specs.Expressions.{resolved_expr}
use Rattle.c_names.specs.Steps.{sequence}
use Rattle.c_names.proofs.Lists.{onto}
use Rattle.c_names.proofs.expressions.+expressions.Given as goal

-- what was resolved, and the arguments that are left, give what all arguments give
abbrev pub invariant-resolve_arguments-loop-argument :
    goal.invariant-resolve_arguments-loop-argument
invariant-resolve_arguments-loop-argument l =
    onto l.resolved (sequence (map (resolved_expr l.definitions.names.now
    l.definitions.functions.now l.scope.names) (drop l.argument-index l.argument-items)))
    ≡ sequence (map (resolved_expr l.definitions.names.now l.definitions.functions.now
    l.scope.names) l.argument-items)
