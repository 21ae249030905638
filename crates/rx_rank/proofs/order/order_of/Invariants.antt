-- The order so far, and that of those that wait.
use Rattle.std.proofs.Common.{◌≡◌, ◌++◌, ◌-◌, length}
use Rattle.std.specs.Option.{option_map}
use Rattle.rx_rank.specs.Answers.{pairs_at}
use Rattle.rx_rank.specs.Choices.{order_by, order_of}
use Rattle.rx_rank.proofs.order.order_of.Given as goal

abbrev pub invariant-loop-turn : goal.invariant-loop-turn
invariant-loop-turn l =
    option_map (λ fs. l.order.items ++ fs) (order_by (length l.symbols - l._turn) (pairs_at l.pairs)
    l.waiting.items) ≡ order_of (pairs_at l.pairs) l.symbols
