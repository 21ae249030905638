-- The pairs stay.
use Rattle.std.proofs.Common.{◌≡◌}
use Rattle.rx_rank.proofs.numbering.number_takings.Given as goal

abbrev pub invariant-loop-number : goal.invariant-loop-number
invariant-loop-number l = l.numbered.pairs ≡ l.fn.numbered.pairs
