-- One rank more.
use Rattle.std.proofs.Common.{◌∙◌, ap, arith, map, sym, [], ◌∷◌, ◌++◌}
use Rattle.std.proofs.lemmas.List.FromFn.{map-range_with_len_more}
use Rattle.rx_anchors.specs.Members.{symbols_of}
use Rattle.rx_find_ranks.specs.Columns.{columns_in, rank_at}
use Rattle.rx_find_ranks.proofs.ranks.ranks_of.Goals as goal

pub loop-symbol-preserved : goal.loop-symbol-preserved
loop-symbol-preserved c =
    let rank = rank_at (columns_in c.args.columns.now) in
    let k = c.loop-symbol.symbol in
    c.in_ok-push.ensures.ok
    ∙ ap (λ rs. rs ++ c.in_ok-rank_of.field-0 ∷ []) c.loop-symbol.invariant
    ∙ ap (λ r. map rank (symbols_of k) ++ r ∷ []) c.in_ok-rank_of.ensures
    ∙ sym (map-range_with_len_more rank 0 k k (omega arith))
