use Rattle.std.proofs.Common.{◌≡◌, ◌+◌, ◌++◌, drop, length}
use Rattle.c_scope.specs.Functions.{slots_from, with_params}
use Rattle.c_names.specs.Views.{model_of}
use Rattle.c_scope.proofs.functions.declare_params.Given as goal

-- the parameters that are left lead to the scope of all, and to their slots
abbrev pub invariant-loop-param : goal.invariant-loop-param
invariant-loop-param l =
    (with_params l.names (drop l.param-index l.params) (model_of l.scope) ≡
    with_params l.names l.params (model_of l.initial.scope))
    × (l.slots ++ slots_from (length l.scope.names) (drop l.param-index l.params) ≡
    slots_from (length l.initial.scope.names) l.params)
    × (length l.scope.names ≡ length l.initial.scope.names + l.param-index)
