use Rattle.std.proofs.Common.{◌≡◌, true, replicate}
use Rattle.c_assigned.proofs.function.all_assigned.Given as goal

abbrev pub invariant-loop-param : goal.invariant-loop-param
invariant-loop-param l = l.flags.items ≡ replicate l._param-index true
