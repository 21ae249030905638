-- What is left of the pairs decides, with what was noted so far.
use Rattle.std.proofs.Common.{◌≡◌, drop, map}
use Rattle.rx_solve.specs.Answers.{IsSolver}
use Rattle.rx_solve.specs.Attempts.{first_applying}
use Rattle.rx_rank.specs.Choices.{first_serving, from_target, pairs_from}
use Rattle.rx_rank.specs.Tries.{noting}
use Rattle.rx_rank.proofs.filling.first_serving.Given as goal

abbrev pub invariant-loop-at : goal.invariant-loop-at
invariant-loop-at g l = record {
  solver : IsSolver g.S.FnMut l.solve;
  same : l.pairs ≡ l.fn.pairs;
  decides :
      noting l.noted (first_applying
      (map (from_target l.raised l.arity l.values (pairs_from l.symbol l.fn.pairs))
      (pairs_from l.symbol (drop l.at l.fn.pairs))))
      ≡ first_serving l.raised l.arity l.values (pairs_from l.symbol l.fn.pairs);
}
