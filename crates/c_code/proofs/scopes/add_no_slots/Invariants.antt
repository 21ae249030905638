-- The statements from the index on add no slot.
use Rattle.std.proofs.Common.{drop}
use Rattle.c_code.specs.Scopes.{AddNoSlots}
use Rattle.c_code.proofs.scopes.add_no_slots.Given as goal

abbrev pub invariant-loop-i : goal.invariant-loop-i
invariant-loop-i l = AddNoSlots (drop l.i l.statements)
