-- None for one symbol more.
use Rattle.std.proofs.Common.{◌∙◌, ap, sym, None, [], ◌∷◌, ◌++◌}
use Rattle.rx_anchors.proofs.ValueLaws.{without_more}
use Rattle.rx_anchors.proofs.values.without_polynomials.Goals as goal

pub loop-symbol-preserved : goal.loop-symbol-preserved
loop-symbol-preserved c =
    c.in_ok-push.ensures.items ∙ ap (λ vs. vs ++ None ∷ []) c.loop-symbol.invariant ∙
    sym (without_more c.loop-symbol._symbol)
