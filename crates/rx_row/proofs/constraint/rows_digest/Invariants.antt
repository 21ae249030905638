-- What the rows that are left make of the number is what all make of 0.
use Rattle.std.proofs.Common.{◌≡◌, drop}
use Rattle.std.specs.List.{fold}
use Rattle.rx_row.specs.Digest.{rows_digest, with_row}
use Rattle.rx_row.proofs.constraint.rows_digest.Given as goal

abbrev pub invariant-loop-row : goal.invariant-loop-row
invariant-loop-row l =
    fold with_row l.digest (drop l.row-index l.rows) ≡ rows_digest l.rows
