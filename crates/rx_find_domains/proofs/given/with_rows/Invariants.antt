use Rattle.std.proofs.Common.{◌≡◌, ◌++◌, take}
use Rattle.rx_find_domains.proofs.given.with_rows.Given as goal

abbrev pub invariant-loop-row : goal.invariant-loop-row
invariant-loop-row l = l.all ≡ l.fn.rows ++ take l.row-index l.more
