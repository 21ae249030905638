-- What is written, and the lines that are left, are all lines.
use Rattle.std.proofs.Common.{◌≡◌, ◌++◌, drop, map}
use Rattle.rx_rulefile.specs.declared.rule_line.RuleLine.TheVariants as line
use Rattle.rx_rulefile.proofs.Written.{text_of}
use Rattle.rx_rulefile.proofs.writing.push_rules.Given as goal

abbrev pub invariant-loop-rule : goal.invariant-loop-rule
invariant-loop-rule l =
    l.out.items ++ text_of (map line.Rule (drop l.rule-index l.rules))
    ≡ l.initial.out.items ++ text_of (map line.Rule l.rules)
