-- One empty group more.
use Rattle.std.proofs.Common.{◌∙◌, ap, arith, sym, [], ◌∷◌, ◌++◌}
use Rattle.std.proofs.lemmas.List.{map-append}
use Rattle.std.proofs.lemmas.List.FromFn.{map-range_with_len_more}
use Rattle.rx_find_ranks.specs.Groups.{entries_in, groups_in}
use Rattle.rx_find_ranks.proofs.Grouping.{items_of}
use Rattle.rx_find_ranks.proofs.groups.empty_groups.Goals as goal

pub loop-group-preserved : goal.loop-group-preserved
loop-group-preserved c =
    let names = c.args.names.now in
    let k = c.loop-group._group in
    ap groups_in c.in_ok-push.ensures.items
    ∙ map-append items_of c.loop-group.groups.items (c.new.result ∷ [])
    ∙ (λ i. c.loop-group.invariant i ++ c.new.ensures.items i ∷ [])
    ∙ sym (map-range_with_len_more (entries_in names []) 0 k k (omega arith))
