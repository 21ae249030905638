-- The symbols so far, and those among what is left.
use Rattle.std.proofs.Common.{◌≡◌, ◌++◌, drop}
use Rattle.rx_rank.specs.Choices.{without}
use Rattle.rx_rank.proofs.order.without.Given as goal

abbrev pub invariant-loop-other : goal.invariant-loop-other
invariant-loop-other l =
    l.others.items ++ without l.symbol (drop l.other-index l.symbols) ≡ without l.symbol l.symbols
