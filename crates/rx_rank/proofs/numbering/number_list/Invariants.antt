-- The pairs stay.
use Rattle.std.proofs.Common.{◌≡◌}
use Rattle.rx_rank.proofs.numbering.number_list.Given as goal

abbrev pub invariant-loop-poly : goal.invariant-loop-poly
invariant-loop-poly l = l.numbered.pairs ≡ l.fn.numbered.pairs
