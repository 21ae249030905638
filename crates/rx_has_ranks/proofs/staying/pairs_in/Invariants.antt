-- Those of the first pairs, and what is left.
use Rattle.std.proofs.Common.{◌≡◌, ◌++◌, drop}
use Rattle.rx_rank.specs.Answers.{pairs_at}
use Rattle.rx_rank.specs.Components.{pairs_in}
use Rattle.rx_has_ranks.proofs.staying.pairs_in.Given as goal

abbrev pub invariant-loop-pair : goal.invariant-loop-pair
invariant-loop-pair l =
    pairs_at l.mine.items ++ pairs_in l.names l.name (pairs_at (drop l.pair-index l.pairs)) ≡
    pairs_in l.names l.name (pairs_at l.pairs)
