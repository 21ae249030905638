-- What is left of the rows decides.
use Rattle.std.proofs.Common.{◌≡◌, drop}
use Rattle.std.specs.List.{find}
use Rattle.rx_find_cover.specs.Coverable.{is_open}
use Rattle.rx_find_cover.proofs.splits.first_open_row.Given as goal

abbrev pub invariant-loop-row : goal.invariant-loop-row
invariant-loop-row l =
    find (is_open l.path) (drop l.row-index l.rows) ≡ find (is_open l.path) l.rows
