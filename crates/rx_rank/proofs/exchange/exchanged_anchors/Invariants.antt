-- The anchors so far, and those among what is left.
use Rattle.std.proofs.Common.{◌≡◌, ◌++◌, drop}
use Rattle.std.specs.List.{filter}
use Rattle.rx_rank.specs.Ranking.{is_exchanged}
use Rattle.rx_rank.proofs.exchange.exchanged_anchors.Given as goal

abbrev pub invariant-loop-symbol : goal.invariant-loop-symbol
invariant-loop-symbol l =
    l.anchors.items ++ filter (is_exchanged l.component.parts.now l.component.hypotheses.now
    l.exchange) (drop l.symbol-index l.symbols) ≡
    filter (is_exchanged l.component.parts.now l.component.hypotheses.now l.exchange) l.symbols
