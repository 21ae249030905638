use Rattle.std.proofs.Common.{◌≡◌, drop}
use Rattle.c_scope.specs.Definitions as spec
use Rattle.c_scope.proofs.prototypes.second_definition.Given as goal

-- the functions that are left have the fault that all have
abbrev pub invariant-loop-function : goal.invariant-loop-function
invariant-loop-function l =
    (l.place ≡ l.function-index)
    × (spec.second_definition l.definitions.names.now l.definitions.functions.now l.place
    (drop l.function-index l.function-items)
    ≡ spec.second_definition l.definitions.names.now l.definitions.functions.now 0 l.function-items)
