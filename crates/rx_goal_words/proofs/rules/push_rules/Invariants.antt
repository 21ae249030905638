-- What is written, and the rules that are left, are all rules.
use Rattle.std.proofs.Common.{◌≡◌, ◌++◌, drop}
use Rattle.rx_goal_words.specs.RuleTexts as spec
use Rattle.rx_goal_words.proofs.rules.push_rules.Given as goal

abbrev pub invariant-loop-number : goal.invariant-loop-number
invariant-loop-number l =
    l.out.items ++ spec.rules_text (spec.chooses l.chosen) l.number (drop l.number l.rules)
    ≡ l.initial.out.items ++ spec.rules_text (spec.chooses l.chosen) 0 l.rules
