-- The numbers so far represent the polynomials so far, and earlier ones are kept.
use Rattle.std.proofs.Common.{take}
use Rattle.rx_bank.specs.Numbers.{KeepsNumbers}
use Rattle.rx_bank.specs.Packing.{StandsAs, numbers_within, polys_at}
use Rattle.rx_bank.proofs.packing.pack_polys.Given as goal

abbrev pub invariant-loop-poly : goal.invariant-loop-poly
invariant-loop-poly l = record {
  stands : StandsAs numbers_within polys_at l.bank l.numbers (take l.poly-index l.polys);
  stay : KeepsNumbers l.fn.bank l.bank;
}
