-- None of the terms so far has such a variable, so the rest decides.
use Rattle.std.proofs.Common.{◌≡◌, drop}
use Rattle.rx_solve.specs.Pivots.{least_of}
use Rattle.rx_solve.proofs.pivots.least_solvable.Given as goal

abbrev pub invariant-loop-term : goal.invariant-loop-term
invariant-loop-term l =
    least_of l.poly (drop l.term-index l.term-items) ≡ least_of l.poly l.term-items
