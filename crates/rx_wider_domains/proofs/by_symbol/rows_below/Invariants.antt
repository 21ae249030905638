-- The rows so far, and those among the rows that are left.
use Rattle.std.proofs.Common.{◌≡◌, ◌++◌, drop}
use Rattle.std.specs.List.{filter}
use Rattle.rx_row.specs.Variables.{row_uses_below}
use Rattle.rx_wider_domains.proofs.by_symbol.rows_below.Given as goal

abbrev pub invariant-loop-row : goal.invariant-loop-row
invariant-loop-row l =
    l.some ++ filter (row_uses_below l.arity) (drop l.row-index l.rows)
    ≡ filter (row_uses_below l.arity) l.rows
