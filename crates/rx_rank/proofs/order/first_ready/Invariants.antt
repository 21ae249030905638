-- What is left of those that wait decides.
use Rattle.std.proofs.Common.{◌≡◌, drop}
use Rattle.std.specs.List.{find}
use Rattle.rx_rank.specs.Answers.{pairs_at}
use Rattle.rx_rank.specs.Choices.{is_ready}
use Rattle.rx_rank.proofs.order.first_ready.Given as goal

abbrev pub invariant-loop-symbol : goal.invariant-loop-symbol
invariant-loop-symbol l =
    find (is_ready (pairs_at l.pairs) l.waiting) (drop l.symbol-index l.waiting) ≡
    find (is_ready (pairs_at l.pairs) l.waiting) l.waiting
