-- The greatest so far and of the rows that are left is that of all.
use Rattle.std.proofs.Common.{◌≡◌, drop, max}
use Rattle.rx_row.specs.Variables.{rows_bound}
use Rattle.rx_row.proofs.variables.rows_bound.Given as goal

abbrev pub invariant-loop-row : goal.invariant-loop-row
invariant-loop-row l = max l.bound (rows_bound (drop l.row-index l.rows)) ≡ rows_bound l.rows
