-- One rule more.
use Rattle.std.proofs.Common.{◌∙◌}
use Rattle.rx_find_domains.proofs.VisitingLaws.{rule_next}
use Rattle.rx_find_domains.proofs.passes.pass.Goals as goal

pub loop-rule-preserved : goal.loop-rule-preserved
loop-rule-preserved g c = record {
  solver = c.in_ok-visit_rule.ensures.solver;
  decides =
      rule_next c.loop-rule.lists.items c.visit_rule.new.lists.items c.as_slice-rules.result.now
      c.loop-rule.rule-index c.rule-item.result c.loop-rule-test.true c.rule-item.is
      c.in_ok-visit_rule.ensures.lists ∙ c.loop-rule.invariant.decides;
}
