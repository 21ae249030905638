use Rattle.std.proofs.Common.{◌≡◌, drop}
use Rattle.c_scope.specs.Definitions as spec
use Rattle.c_scope.proofs.prototypes.wrong_prototype.Given as goal

-- the prototypes that are left have the fault that all have
abbrev pub invariant-loop-prototype : goal.invariant-loop-prototype
invariant-loop-prototype l =
    spec.wrong_prototype l.definitions.names.now l.definitions.functions.now
    (drop l.prototype-index l.prototypes)
    ≡ spec.wrong_prototype l.definitions.names.now l.definitions.functions.now l.prototypes
