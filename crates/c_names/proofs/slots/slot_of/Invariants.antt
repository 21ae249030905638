use Rattle.std.proofs.Common.{◌≡◌, drop}
use Rattle.std.specs.Option.{option_or}
use Rattle.c_names.specs.Slots.{slot_from, slot_of}
use Rattle.c_names.proofs.slots.slot_of.Given as goal

-- a slot among those that are left hides the one that was found
abbrev pub invariant-loop-standing : goal.invariant-loop-standing
invariant-loop-standing l =
    (l.slot ≡ l.standing-index) ×
    (option_or (slot_from l.slot (drop l.standing-index l.scope) l.name) l.found ≡
    slot_of l.scope l.name)
