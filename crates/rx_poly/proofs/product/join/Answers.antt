-- Each turn takes the first atom of one list; what is left still joins to the whole.
use Rattle.std.proofs.Common.{ap, sym, ◌∙◌}
use Rattle.std.specs.Ordering.{is_gt}
use Rattle.rx_poly.proofs.Joining.{after_last, after_left, after_right}
use Rattle.rx_poly.proofs.product.join.Goals as goal

pub loop-x-preserved-in_default-split_first : goal.loop-x-preserved-in_default-split_first
loop-x-preserved-in_default-split_first c =
    after_last c.in-Some.ensures.cases.0 c.loop-x.invariant c.in_default-split_first.ensures.cases
    c.in_ok-push_atom.ensures

pub loop-x-preserved-then-is_gt : goal.loop-x-preserved-then-is_gt
loop-x-preserved-then-is_gt c =
    after_right c.in-Some.ensures.cases.0 c.loop-x.invariant c.in-Some-split_first.ensures.cases.0
    (sym (c.is_gt.ensures ∙ ap is_gt c.cmp.ensures) ∙ c.if-is_gt.true)
    c.in_ok-push_atom-2.ensures

pub loop-x-preserved : goal.loop-x-preserved
loop-x-preserved c =
    after_left c.in-Some.ensures.cases.0 c.loop-x.invariant c.in-Some-split_first.ensures.cases.0
    (sym (c.is_gt.ensures ∙ ap is_gt c.cmp.ensures) ∙ c.if-is_gt.false)
    c.in_ok-push_atom-3.ensures
