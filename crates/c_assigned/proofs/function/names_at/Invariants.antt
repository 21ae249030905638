use Rattle.std.proofs.Common.{◌≡◌, map, take}
use Rattle.c_names.specs.Names.{name_at}
use Rattle.c_assigned.proofs.function.names_at.Given as goal

abbrev pub invariant-loop-token : goal.invariant-loop-token
invariant-loop-token l = l.found.items ≡ map (name_at l.names) (take l.token-index l.tokens)
