-- One more rule's pairs.
use Rattle.rx_pairs.proofs.DescendingLaws.{push_rule}
use Rattle.rx_pairs.proofs.pairs.push_pairs.Goals as goal

pub loop-rule-preserved : goal.loop-rule-preserved
loop-rule-preserved c = λ before are.
    push_rule c.args.rules.now before c.loop-rule.rule-index c.rule-item.result
    c.loop-rule.pairs.items c.in_ok-more.more.items c.append.new.self.items
    c.loop-rule-test.true c.rule-item.is (c.loop-rule.invariant before are) c.in_ok-more.ensures
    c.in_ok-append.ensures.items
