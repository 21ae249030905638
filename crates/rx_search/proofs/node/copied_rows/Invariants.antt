use Rattle.std.proofs.Common.{◌≡◌, take}
use Rattle.rx_search.proofs.node.copied_rows.Given as goal

abbrev pub invariant-loop-row : goal.invariant-loop-row
invariant-loop-row l = l.made ≡ take l.row-index l.rows
