-- One more fits; and then all do.
use Rattle.std.proofs.Common.{refl}
use Rattle.test_search.proofs.FittingLaws.{all_fit, more_fit}
use Rattle.test_search.proofs.search_calls.have_fitting_sides.Goals as goal

pub loop-rule-preserved : goal.loop-rule-preserved
loop-rule-preserved c =
    more_fit c.args.set.now c.args.rules.now c.loop-rule.rule-index c.rule-item.result
    c.loop-rule-test.true c.rule-item.is c.loop-rule.invariant
    (c.has_fitting_sides.ensures.0 c.if-not-has_fitting_sides.false)

pub returns : goal.returns
returns c = (
  λ yes. all_fit c.args.set.now c.args.rules.now c.loop-rule.rule-index c.loop-rule-test.false
      c.loop-rule.invariant,
  λ all. refl,
)
