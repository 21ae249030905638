-- The others so far, and those among what is left.
use Rattle.std.proofs.Common.{◌≡◌, ◌++◌, drop, not}
use Rattle.std.specs.List.{filter}
use Rattle.rx_rank.specs.Ranking.{is_exchanged}
use Rattle.rx_rank.proofs.exchange.exchanged_others.Given as goal

abbrev pub invariant-loop-symbol : goal.invariant-loop-symbol
invariant-loop-symbol l =
    l.others.items ++ filter (λ f. not (is_exchanged l.component.parts.now
    l.component.hypotheses.now l.exchange f)) (drop l.symbol-index l.symbols) ≡
    filter (λ f. not (is_exchanged l.component.parts.now l.component.hypotheses.now l.exchange f))
    l.symbols
