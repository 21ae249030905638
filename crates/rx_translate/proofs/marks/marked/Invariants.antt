use Rattle.std.proofs.Common.{◌≡◌, ◌++◌, drop}
use Rattle.rx_translate.specs.Marks.{marked_from}
use Rattle.rx_translate.proofs.marks.marked.Given as goal

abbrev pub invariant-loop-i : goal.invariant-loop-i
invariant-loop-i l = l.numbers ++ marked_from l.i (drop l.i l.marks) ≡ marked_from 0 l.marks
