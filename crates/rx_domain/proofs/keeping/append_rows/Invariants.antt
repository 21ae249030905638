use Rattle.std.proofs.Common.{◌≡◌, ◌++◌, take}
use Rattle.rx_domain.proofs.keeping.append_rows.Given as goal

abbrev pub invariant-loop-row : goal.invariant-loop-row
invariant-loop-row l = l.given ≡ l.initial.given ++ take l.row-index l.rows
