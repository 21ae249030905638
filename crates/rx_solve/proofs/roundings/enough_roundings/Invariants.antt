-- The roundings so far, and what the rest of the rows adds.
use Rattle.std.proofs.Common.{drop}
use Rattle.rx_solve.proofs.RoundingWalk.{Rounded}
use Rattle.rx_solve.proofs.roundings.enough_roundings.Given as goal

abbrev pub invariant-loop-at : goal.invariant-loop-at
invariant-loop-at l = Rounded l.rows l.found.items l.at (drop l.at l.rows)
