use Rattle.std.proofs.Common.{◌≡◌, drop}
use Rattle.std.specs.List.{list_all}
use Rattle.rx_term.specs.MadeTest.{is_made}
use Rattle.rx_term.proofs.rule_set.RuleParts.is_well_made.Given as goal

abbrev pub invariant-loop-rule : goal.invariant-loop-rule
invariant-loop-rule l =
    list_all (is_made l.self) (drop l.rule-index l.rule-items) ≡
    list_all (is_made l.self) l.rule-items
