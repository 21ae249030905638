use Rattle.std.proofs.Common.{◌≡◌, ℕ, drop, map}
use Rattle.rx_translate.specs.Marks.{marked_also, marks_of}
use Rattle.rx_translate.proofs.marks.marks_of_second.Given as goal

abbrev pub invariant-loop-number : goal.invariant-loop-number
invariant-loop-number l =
    marked_also l.marks.items (map (λ (e : ℕ × ℕ). e.1) (drop l.number-index l.pairs)) ≡
    marks_of l.fn.count (map (λ (e : ℕ × ℕ). e.1) l.pairs)
