use Rattle.std.proofs.Common.{◌≡◌, map, take}
use Rattle.rx_bank.specs.Packing.{rule_at}
use Rattle.rx_bank.proofs.unpacking.unpack_rules.Given as goal

abbrev pub invariant-loop-rule : goal.invariant-loop-rule
invariant-loop-rule l = l.rules.items ≡ map (rule_at l.bank) (take l.rule-index l.packed)
