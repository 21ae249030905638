use Rattle.std.proofs.Common.{◌≡◌, take}
use Rattle.rx_bank.specs.Packing.{polys_at}
use Rattle.rx_bank.proofs.unpacking.unpack_polys.Given as goal

abbrev pub invariant-loop-number : goal.invariant-loop-number
invariant-loop-number l = l.polys ≡ polys_at l.bank (take l.number-index l.numbers)
