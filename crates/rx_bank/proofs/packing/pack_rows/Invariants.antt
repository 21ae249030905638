-- What is packed so far represents the rows so far, and earlier numbers are kept.
use Rattle.std.proofs.Common.{take}
use Rattle.rx_bank.specs.Numbers.{KeepsNumbers}
use Rattle.rx_bank.specs.Packing.{StandsAs, rows_at, rows_within}
use Rattle.rx_bank.proofs.packing.pack_rows.Given as goal

abbrev pub invariant-loop-row : goal.invariant-loop-row
invariant-loop-row l = record {
  stands : StandsAs rows_within rows_at l.bank l.packed (take l.row-index l.rows);
  stay : KeepsNumbers l.fn.bank l.bank;
}
