use Rattle.std.proofs.Common.{◌+◌, length}
use Rattle.rx_translate.proofs.Walks.{Walking, unwalked}
use Rattle.rx_translate.proofs.reached.marks_of_reached.Given as goal

abbrev pub invariant-loop-place : goal.invariant-loop-place
invariant-loop-place l = Walking l.program l.fn.first l.fn.second l.marks.items l.waiting

abbrev pub decreases-loop-place : goal.decreases-loop-place
decreases-loop-place l = length l.waiting + unwalked l.marks.items l.program.functions
