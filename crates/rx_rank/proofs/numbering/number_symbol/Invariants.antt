-- The pairs stay.
use Rattle.std.proofs.Common.{◌≡◌}
use Rattle.rx_rank.proofs.numbering.number_symbol.Given as goal

abbrev pub invariant-loop-at : goal.invariant-loop-at
invariant-loop-at l = l.numbered.pairs ≡ l.fn.numbered.pairs
