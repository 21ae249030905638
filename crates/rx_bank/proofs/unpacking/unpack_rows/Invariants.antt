use Rattle.std.proofs.Common.{◌≡◌, map, take}
use Rattle.rx_bank.specs.Packing.{row_at}
use Rattle.rx_bank.proofs.unpacking.unpack_rows.Given as goal

abbrev pub invariant-loop-row : goal.invariant-loop-row
invariant-loop-row l = l.unpacked.items ≡ map (row_at l.bank) (take l.row-index l.rows)
