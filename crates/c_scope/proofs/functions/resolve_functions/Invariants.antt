use Rattle.std.proofs.Common.{◌≡◌, ℕ, ◌<◌, map, drop, get_or}
use Rattle.c_ast.specs.declared.program.Function.{Function}
use Rattle.c_scope.specs.Functions.{HasFewParams, resolved_function}
use Rattle.c_names.specs.Steps.{sequence}
use Rattle.c_names.proofs.Lists.{onto}
use Rattle.c_scope.proofs.functions.resolve_functions.Given as goal

-- what was resolved, and the functions that are left, give what all functions give; and those that
-- were resolved have few parameters
abbrev pub invariant-loop-function : goal.invariant-loop-function
invariant-loop-function l =
    (onto l.resolved (sequence (map (resolved_function l.definitions.names.now
    l.definitions.functions.now) (drop l.function-index l.function-items)))
    ≡ sequence (map (resolved_function l.definitions.names.now l.definitions.functions.now)
    l.function-items))
    × ((k : ℕ) (d : Function) → k < l.function-index → HasFewParams (get_or l.function-items k d))
