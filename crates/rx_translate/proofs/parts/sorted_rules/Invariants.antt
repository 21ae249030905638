use Rattle.std.proofs.Common.{[], drop, length, replicate}
use Rattle.rx_translate.proofs.Sorted.{Sorting}
use Rattle.rx_translate.proofs.parts.sorted_rules.Given as goal

abbrev pub invariant-loop-d : goal.invariant-loop-d
invariant-loop-d l =
    Sorting l.integers l.code.entries (replicate (length l.code.opened) []) l.lists.items
    (drop l.d-index l.d-items) l.d-items
