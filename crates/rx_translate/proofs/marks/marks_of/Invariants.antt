use Rattle.std.proofs.Common.{◌≡◌, drop}
use Rattle.rx_translate.specs.Marks.{marked_also, marks_of}
use Rattle.rx_translate.proofs.marks.marks_of.Given as goal

abbrev pub invariant-loop-number : goal.invariant-loop-number
invariant-loop-number l =
    marked_also l.marks.items (drop l.number-index l.numbers) ≡ marks_of l.fn.count l.numbers
