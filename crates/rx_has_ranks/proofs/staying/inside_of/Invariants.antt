-- Those of the first pairs, and what is left.
use Rattle.std.proofs.Common.{◌≡◌, ◌++◌, drop}
use Rattle.std.specs.List.{filter}
use Rattle.rx_rank.specs.Answers.{pairs_at}
use Rattle.rx_rank.specs.Components.{is_inside}
use Rattle.rx_has_ranks.proofs.staying.inside_of.Given as goal

abbrev pub invariant-loop-pair : goal.invariant-loop-pair
invariant-loop-pair l =
    pairs_at l.left.items ++ filter (is_inside l.names) (pairs_at (drop l.pair-index l.pairs)) ≡
    filter (is_inside l.names) (pairs_at l.pairs)
