-- The number among the exchanges of the anchors that are left.
use Rattle.std.proofs.Common.{◌≡◌, drop, slice_get}
use Rattle.rx_rank.specs.Ranking.{all_exchanges}
use Rattle.rx_rank.proofs.exchange.exchange_at.Given as goal

abbrev pub invariant-loop-anchor : goal.invariant-loop-anchor
invariant-loop-anchor l =
    slice_get (all_exchanges (record {
      anchors = drop l.anchor-index l.members.anchors.items;
      others = l.members.others.items;
    })) l.left ≡ slice_get (all_exchanges (record {
      anchors = l.members.anchors.items;
      others = l.members.others.items;
    })) l.number
