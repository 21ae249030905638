-- The values up to the index have been added.
use Rattle.std.proofs.Common.{◌≡◌, ◌++◌, take}
use Rattle.c_machine.proofs.store.push_all.Given as goal

abbrev pub invariant-loop-value : goal.invariant-loop-value
invariant-loop-value l = l.slots.items ≡ l.fn.slots.items ++ take l.value-index l.values
