-- Those so far, and then those of the rules that are left, are all.
use Rattle.std.proofs.Common.{◌≡◌, ◌++◌, drop}
use Rattle.rx_plain.specs.Formed.{◌<$>◌}
use Rattle.rx_term.specs.Paired.{rules_of_shape}
use Rattle.rx_term.specs.Shapes.{Call}
use Rattle.rx_lemma.specs.RuleRows.{rows_by}
use Rattle.rx_lemma.proofs.rule_rows.rows_of.Given as goal

abbrev pub invariant-loop-rule : goal.invariant-loop-rule
invariant-loop-rule l =
    ((λ more. l.made ++ more) <$> rows_by l.arguments
    (rules_of_shape (Call l.symbol) (drop l.rule-index l.rules)))
    ≡ rows_by l.arguments (rules_of_shape (Call l.symbol) l.rules)
