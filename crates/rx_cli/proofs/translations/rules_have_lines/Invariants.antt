-- What is left has lines exactly where all has.
use Rattle.std.proofs.Common.{◌≡◌, drop, map}
use Rattle.std.specs.List.{list_all}
use Rattle.rx_rulefile.specs.RuleLines.{lines}
use Rattle.rx_rulefile.specs.declared.rule_line.RuleLine.TheVariants as line
use Rattle.rx_cli.proofs.translations.rules_have_lines.Given as goal

abbrev pub invariant-loop-rule : goal.invariant-loop-rule
invariant-loop-rule l =
    list_all lines.in_range (map line.Rule (drop l.rule-index l.rules))
    ≡ list_all lines.in_range (map line.Rule l.rules)
