-- What is left of the symbols decides.
use Rattle.std.proofs.Common.{◌≡◌, ◌==◌, drop}
use Rattle.std.specs.List.{list_any}
use Rattle.rx_rank.proofs.order.is_among.Given as goal

abbrev pub invariant-loop-other : goal.invariant-loop-other
invariant-loop-other l =
    list_any (λ g. g == l.symbol) (drop l.other-index l.symbols) ≡
    list_any (λ g. g == l.symbol) l.symbols
