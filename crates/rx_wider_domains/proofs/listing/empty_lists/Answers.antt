-- One list more.
use Rattle.std.proofs.Common.{◌∙◌, ◌++◌, ◌∷◌, [], List, ap}
use Rattle.std.proofs.lemmas.List.{replicate_more}
use Rattle.rx_row.specs.declared.row.Row.{Row}
use Rattle.rx_wider_domains.proofs.listing.empty_lists.Goals as goal

pub loop-symbol-preserved : goal.loop-symbol-preserved
loop-symbol-preserved c =
    c.in_ok-push.ensures.items ∙
    ap (λ (rows : List Row). c.loop-symbol.lists.items ++ rows ∷ [])
    (c.from_rows.ensures ∙ c.new.ensures.items) ∙
    ap (λ (ls : List (List Row)). ls ++ [] ∷ []) c.loop-symbol.invariant ∙
    replicate_more c.loop-symbol._symbol-index []
