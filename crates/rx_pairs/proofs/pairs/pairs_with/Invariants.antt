-- The pairs so far are those of the first parts.
use Rattle.std.proofs.Common.{◌≡◌, map, take}
use Rattle.rx_pairs.specs.Lent.{all_lent, lent}
use Rattle.rx_pairs.specs.Pairs.{pair_under}
use Rattle.rx_pairs.proofs.pairs.pairs_with.Given as goal

abbrev pub invariant-loop-part : goal.invariant-loop-part
invariant-loop-part l =
    l.pairs.items ≡ map (pair_under l.rows (lent l.root)) (all_lent (take l.part-index l.parts))
