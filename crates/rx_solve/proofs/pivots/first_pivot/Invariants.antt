-- None of the rows so far is a pivot, so the rest decides.
use Rattle.std.proofs.Common.{◌≡◌, ◌+◌, length}
use Rattle.rx_solve.specs.Pivots.{pivot_from}
use Rattle.rx_solve.proofs.pivots.first_pivot.Given as goal

abbrev pub invariant-loop-row : goal.invariant-loop-row
invariant-loop-row l = record {
  decides : pivot_from l.at l.rest ≡ pivot_from 0 l.rows;
  count : l.at + length l.rest ≡ length l.rows;
}

abbrev pub decreases-loop-row : goal.decreases-loop-row
decreases-loop-row l = length l.rest
