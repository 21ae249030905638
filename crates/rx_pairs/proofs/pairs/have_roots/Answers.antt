-- One more has a root; and then all have.
use Rattle.std.proofs.Common.{◌∙◌, refl, sym}
use Rattle.rx_pairs.proofs.DescendingLaws.{all_roots, more_roots}
use Rattle.rx_pairs.proofs.pairs.have_roots.Goals as goal

pub loop-rule-preserved : goal.loop-rule-preserved
loop-rule-preserved c =
    more_roots c.args.rules.now c.loop-rule.rule-index c.rule-item.result c.loop-rule-test.true
    c.rule-item.is c.loop-rule.invariant
    (sym c.is_result.ensures ∙ c.if-is_result.false)

pub returns : goal.returns
returns c = (
  λ yes. all_roots c.args.rules.now c.loop-rule.rule-index c.loop-rule-test.false
      c.loop-rule.invariant,
  λ all. refl,
)
