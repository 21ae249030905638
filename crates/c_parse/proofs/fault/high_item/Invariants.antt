use Rattle.std.proofs.Common.{◌-◌, length}
use Rattle.c_parse.specs.Readers.{Seeking}
use Rattle.c_parse.proofs.fault.high_item.Given as goal

abbrev pub invariant-items : goal.invariant-items
invariant-items l = Seeking l.tokens l.at l.end

abbrev pub decreases-items : goal.decreases-items
decreases-items l = length l.tokens - l.end
