-- Those of the first pairs, and what is left.
use Rattle.std.proofs.Common.{◌≡◌, ◌++◌, drop}
use Rattle.rx_rank.specs.Answers.{pairs_at, still_open}
use Rattle.rx_has_ranks.proofs.staying.still_open.Given as goal

abbrev pub invariant-loop-at : goal.invariant-loop-at
invariant-loop-at l =
    pairs_at l.left.items ++ still_open (pairs_at (drop l.at l.pairs)) (drop l.at l.falls) ≡
    still_open (pairs_at l.pairs) l.falls
