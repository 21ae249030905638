-- What is packed so far represents the goals so far, and earlier numbers are kept.
use Rattle.std.proofs.Common.{take}
use Rattle.rx_bank.specs.Numbers.{KeepsNumbers}
use Rattle.rx_bank.specs.Packing.{StandsAs, equations_at, equations_within}
use Rattle.rx_bank.proofs.packing.pack_goals.Given as goal

abbrev pub invariant-loop-at : goal.invariant-loop-at
invariant-loop-at l = record {
  stands : StandsAs equations_within equations_at l.bank l.packed (take l.at l.state.goals);
  stay : KeepsNumbers l.fn.bank l.bank;
}
