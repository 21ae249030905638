use Rattle.std.proofs.Common.{◌≡◌, drop}
use Rattle.rx_row.specs.Variables.{rows_use_below}
use Rattle.rx_row.proofs.variables.rows_use_below.Given as goal

abbrev pub invariant-loop-row : goal.invariant-loop-row
invariant-loop-row l =
    rows_use_below l.bound (drop l.row-index l.rows) ≡ rows_use_below l.bound l.rows
