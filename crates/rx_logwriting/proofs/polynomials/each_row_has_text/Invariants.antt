use Rattle.std.proofs.Common.{◌≡◌, true, take}
use Rattle.std.specs.List.{list_all}
use Rattle.rx_text.specs.Rows.{is_readable_row}
use Rattle.rx_logwriting.proofs.polynomials.each_row_has_text.Given as goal

abbrev pub invariant-loop-row : goal.invariant-loop-row
invariant-loop-row l = list_all is_readable_row (take l.row-index l.rows) ≡ true
