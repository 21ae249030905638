use Rattle.std.proofs.Common.{◌≡◌, take}
use Rattle.rx_settle.proofs.descending.copied_rules.Given as goal

abbrev pub invariant-loop-rule : goal.invariant-loop-rule
invariant-loop-rule l = l.made.items ≡ take l.rule-index l.rules
