-- The ratios of the rows so far, and what the rest adds.
use Rattle.std.proofs.Common.{◌≡◌, ◌++◌, drop, true}
use Rattle.std.specs.List.{list_all}
use Rattle.rx_solve.specs.Divisions.{has_polynomial, rows_ratios}
use Rattle.rx_solve.proofs.divisions.rows_ratios.Given as goal

abbrev pub invariant-loop-row : goal.invariant-loop-row
invariant-loop-row l = record {
  found : l.found.items ++ rows_ratios (drop l.row-index l.rows) ≡ rows_ratios l.rows;
  polynomials : list_all has_polynomial l.found.items ≡ true;
}
