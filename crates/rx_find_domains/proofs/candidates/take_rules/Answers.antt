-- One rule more.
use Rattle.std.proofs.Common.{List, ◌∙◌, ◌+◌, ap, drop}
use Rattle.std.specs.List.{flat_map}
use Rattle.rx_row.specs.declared.row.Row.{Row}
use Rattle.rx_find_domains.specs.Candidates.{rows_of_rule, taken}
use Rattle.rx_find_domains.proofs.CandidateLaws.{rules_next}
use Rattle.rx_find_domains.proofs.candidates.take_rules.Goals as goal

pub loop-rule-preserved : goal.loop-rule-preserved
loop-rule-preserved c =
    ap (λ (rs : List Row). taken c.args.arity rs
    (flat_map (rows_of_rule c.args.names.now c.args.sym)
    (drop (c.loop-rule.rule-index + 1) c.args.rules.now)))
    c.in_ok-take_rule.ensures ∙
    rules_next c.args.arity c.args.names.now c.args.sym c.loop-rule.rows c.args.rules.now
    c.loop-rule.rule-index c.rule-item.result c.loop-rule-test.true c.rule-item.is ∙
    c.loop-rule.invariant
