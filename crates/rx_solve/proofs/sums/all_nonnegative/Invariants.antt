-- What the rows so far say, and what the rest adds.
use Rattle.std.proofs.Common.{◌≡◌, ◌++◌, drop}
use Rattle.std.specs.List.{list_all}
use Rattle.rx_solve.specs.Sums.{all_nonnegative, opposite_within}
use Rattle.rx_solve.proofs.sums.all_nonnegative.Given as goal

abbrev pub invariant-loop-row : goal.invariant-loop-row
invariant-loop-row l =
    (l.polys.items ++ all_nonnegative (drop l.row-index l.rows) ≡ all_nonnegative l.rows)
    × (list_all opposite_within (drop l.row-index l.rows) ≡ list_all opposite_within l.rows)
