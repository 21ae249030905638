-- As many rows are copied as were looked at.
use Rattle.std.proofs.Common.{◌≡◌, take}
use Rattle.rx_solve.proofs.refuter.copy_rows.Given as goal

abbrev pub invariant-loop-row : goal.invariant-loop-row
invariant-loop-row l = l.copies.items ≡ take l.row-index l.rows
