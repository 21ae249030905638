-- None for one symbol more.
use Rattle.std.proofs.Common.{◌∙◌, ap, sym, None, [], ◌∷◌, ◌++◌}
use Rattle.std.proofs.lemmas.List.{map-append}
use Rattle.rx_anchors.proofs.ValueLaws.{without_more}
use Rattle.rx_rank.specs.Numbers.{by_number, by_numbers}
use Rattle.rx_rank.proofs.quick.without_numbers.Goals as goal

pub loop-symbol-preserved : goal.loop-symbol-preserved
loop-symbol-preserved c polys =
    ap (by_numbers polys) c.in_ok-push.ensures.items
    ∙ map-append (by_number polys) c.loop-symbol.values.items (None ∷ [])
    ∙ ap (λ vs. vs ++ None ∷ []) (c.loop-symbol.invariant polys)
    ∙ sym (without_more c.loop-symbol._symbol)
