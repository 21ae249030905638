-- None of the rows so far is opposite, so the rest decides.
use Rattle.std.proofs.Common.{◌≡◌, ◌+◌, drop}
use Rattle.rx_solve.specs.Pivots.{opposite_from}
use Rattle.rx_solve.proofs.pivots.opposite_from.Given as goal

abbrev pub invariant-loop-at : goal.invariant-loop-at
invariant-loop-at l =
    opposite_from (l.from + l.at) l.poly (drop l.at l.rows) ≡ opposite_from l.from l.poly l.rows
