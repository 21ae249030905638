use Rattle.std.proofs.Common.{length}
use Rattle.rx_fm.specs.Numbers.{combined, combined_within}
use Rattle.rx_fm.proofs.Lists.{Combining}
use Rattle.rx_fm.proofs.numbers.combined.Given as goal

abbrev pub invariant-loop-x : goal.invariant-loop-x
invariant-loop-x l =
    Combining l.k l.xs l.l l.ys l.made (combined l.k l.fn.left l.l l.fn.right)
    (combined_within l.k l.fn.left l.l l.fn.right)

abbrev pub decreases-loop-x : goal.decreases-loop-x
decreases-loop-x l = length l.xs
