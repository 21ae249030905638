use Rattle.std.proofs.Common.{◌≡◌, drop}
use Rattle.c_scope.specs.Programs as spec
use Rattle.c_scope.proofs.assigned.assigned_fault.Given as goal

-- the functions that are left have the fault that all have
abbrev pub invariant-loop-function : goal.invariant-loop-function
invariant-loop-function l =
    spec.assigned_fault l.names (drop l.function-index l.functions) ≡
    spec.assigned_fault l.names l.functions
