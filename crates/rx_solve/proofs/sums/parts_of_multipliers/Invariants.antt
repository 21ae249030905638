-- The parts so far, and what the rest of the rows and of the multipliers adds.
use Rattle.std.proofs.Common.{◌≡◌, ◌++◌, All, drop, pos, ◌≤ℤ◌}
use Rattle.rx_solve.specs.Sums.{parts_from}
use Rattle.rx_solve.proofs.sums.parts_of_multipliers.Given as goal

abbrev pub invariant-loop-at : goal.invariant-loop-at
invariant-loop-at l = record {
  all : l.parts ++ parts_from l.at (drop l.at l.rows) l.left ≡ parts_from 0 l.rows l.multipliers;
  left : All (λ m. pos 0 ≤ℤ m) l.left;
}
