use Rattle.std.proofs.Common.{◌-◌, length}
use Rattle.c_parse.specs.Readers.{Collecting}
use Rattle.c_parse.proofs.program.program.Given as goal

abbrev pub invariant-loop-at : goal.invariant-loop-at
invariant-loop-at l = Collecting l.tokens l.program l.at

abbrev pub decreases-loop-at : goal.decreases-loop-at
decreases-loop-at l = length l.tokens - l.at
