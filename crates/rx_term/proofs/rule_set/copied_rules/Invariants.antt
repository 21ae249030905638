use Rattle.std.proofs.Common.{◌≡◌, take}
use Rattle.rx_term.proofs.rule_set.copied_rules.Given as goal

abbrev pub invariant-loop-rule : goal.invariant-loop-rule
invariant-loop-rule l = l.made ≡ take l.rule-index l.rules
