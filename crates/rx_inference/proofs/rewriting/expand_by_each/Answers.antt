-- A rule of the shape adds its goal.
use Rattle.std.proofs.Common.{◌≡◌, ◌∙◌, ap, sym, true, ◌∷◌, ◌++◌, []}
use Rattle.rx_inference.specs.Pieces.{have_one_shape}
use Rattle.rx_inference.proofs.Filtering.{after_element}
use Rattle.rx_inference.proofs.rewriting.expand_by_each.Goals as goal

pub loop-rule-preserved : goal.loop-rule-preserved
loop-rule-preserved c =
    let passes : have_one_shape c.rule-item.result.left c.args.redex.now ≡ true =
    sym c.have_one_shape.ensures ∙ c.if-not-have_one_shape.false in
    let added = c.in_ok-push.ensures.ok ∙ ap (λ g. c.loop-rule.goals ++ g ∷ [])
    c.in_ok-made.ensures.forms.0 in
    after_element c.args.rules.now c.loop-rule.rule-index c.loop-rule-test.true c.rule-item.is
    c.loop-rule.invariant passes added c.in_ok-made.ensures.forms.1
