-- What is left of the pairs decides.
use Rattle.std.proofs.Common.{◌≡◌, drop}
use Rattle.rx_rank.specs.Answers.{pairs_at}
use Rattle.rx_rank.specs.Choices.{is_ready}
use Rattle.rx_rank.proofs.order.is_ready.Given as goal

abbrev pub invariant-loop-pair : goal.invariant-loop-pair
invariant-loop-pair l =
    is_ready (pairs_at (drop l.pair-index l.pairs)) l.waiting l.symbol ≡
    is_ready (pairs_at l.pairs) l.waiting l.symbol
