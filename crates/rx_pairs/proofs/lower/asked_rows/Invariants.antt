-- The rows so far, and then those of what is left, are those of the whole.
use Rattle.std.proofs.Common.{◌≡◌}
use Rattle.rx_pairs.specs.Lowering.{lower_rows, prefixed}
use Rattle.rx_pairs.proofs.lower.asked_rows.Given as goal

abbrev pub invariant-loop-number : goal.invariant-loop-number
invariant-loop-number l =
    prefixed l.rows.items (lower_rows l.pair l.number l.rest l.others) ≡
    lower_rows l.pair l.column l.left l.right

abbrev pub decreases-loop-number : goal.decreases-loop-number
decreases-loop-number l = l.number
