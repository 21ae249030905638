-- The first pairs are added.
use Rattle.std.proofs.Common.{◌≡◌, ◌++◌, take}
use Rattle.rx_rank.specs.Answers.{pairs_at}
use Rattle.rx_has_ranks.proofs.deciding.push_borrowed.Given as goal

abbrev pub invariant-loop-pair : goal.invariant-loop-pair
invariant-loop-pair l =
    pairs_at l.refs.items ≡ pairs_at l.initial.refs.items ++ take l.pair-index l.pairs
