use Rattle.std.proofs.Common.{◌≡◌, take}
use Rattle.rx_find_domains.proofs.staying.copied_rows.Given as goal

abbrev pub invariant-loop-row : goal.invariant-loop-row
invariant-loop-row l = l.made ≡ take l.row-index l.rows
