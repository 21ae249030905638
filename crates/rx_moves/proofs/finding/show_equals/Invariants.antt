-- What is left of both lists decides.
use Rattle.std.proofs.Common.{◌≡◌, length, zip}
use Rattle.rx_solve.specs.Answers.{IsSolver}
use Rattle.rx_moves.specs.Suffixes.{equals_shown}
use Rattle.rx_moves.proofs.finding.show_equals.Given as goal

abbrev pub invariant-loop-left : goal.invariant-loop-left
invariant-loop-left g l = record {
  solver : IsSolver g.S.FnMut l.solve;
  decides : equals_shown l.given (zip l.rest l.others) ≡
      equals_shown l.given (zip l.lefts l.rights);
}

abbrev pub decreases-loop-left : goal.decreases-loop-left
decreases-loop-left g l = length l.rest
