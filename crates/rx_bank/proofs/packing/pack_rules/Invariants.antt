-- What is packed so far represents the rules so far, and earlier numbers are kept.
use Rattle.std.proofs.Common.{take}
use Rattle.rx_bank.specs.Numbers.{KeepsNumbers}
use Rattle.rx_bank.specs.Packing.{StandsAs, equations_within, rules_at}
use Rattle.rx_bank.proofs.packing.pack_rules.Given as goal

abbrev pub invariant-loop-rule : goal.invariant-loop-rule
invariant-loop-rule l = record {
  stands : StandsAs equations_within rules_at l.bank l.packed (take l.rule-index l.rules);
  stay : KeepsNumbers l.fn.bank l.bank;
}
