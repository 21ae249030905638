-- The rule that was found, and those of the shape that are left, decide.
use Rattle.std.proofs.Common.{drop}
use Rattle.std.specs.Option.{option_copied}
use Rattle.rx_match.proofs.FreeRules.{Deciding}
use Rattle.rx_match.proofs.simplifying.free_rule.Given as goal

abbrev pub invariant-loop-rule : goal.invariant-loop-rule
invariant-loop-rule l =
    Deciding l.redex (option_copied l.found) (drop l.rule-index l.rules) l.rules
