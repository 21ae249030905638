use Rattle.std.proofs.Common.{◌-◌, length, take}
use Rattle.c_assigned.proofs.Meets.{Meeting}
use Rattle.c_assigned.proofs.sets.intersection.Given as goal

abbrev pub invariant-loop-slot : goal.invariant-loop-slot
invariant-loop-slot l = Meeting (take (length l.others) l.fn.left) l.others l.flags.items l.slot

abbrev pub decreases-loop-slot : goal.decreases-loop-slot
decreases-loop-slot l = length l.flags.items - l.slot
