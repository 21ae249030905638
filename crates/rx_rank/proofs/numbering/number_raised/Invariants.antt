-- The pairs stay.
use Rattle.std.proofs.Common.{◌≡◌}
use Rattle.rx_rank.proofs.numbering.number_raised.Given as goal

abbrev pub invariant-loop-symbol : goal.invariant-loop-symbol
invariant-loop-symbol l = l.numbered.pairs ≡ l.fn.numbered.pairs
