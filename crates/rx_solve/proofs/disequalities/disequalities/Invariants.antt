-- The numbers so far, and what the rest of the rows adds.
use Rattle.std.proofs.Common.{◌≡◌, ◌++◌, drop}
use Rattle.rx_solve.specs.Disequalities.{disequalities_from}
use Rattle.rx_solve.proofs.disequalities.disequalities.Given as goal

abbrev pub invariant-loop-at : goal.invariant-loop-at
invariant-loop-at l =
    l.numbers.items ++ disequalities_from l.at (drop l.at l.rows) ≡ disequalities_from 0 l.rows
