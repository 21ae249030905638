-- What is left of the pairs decides, with what was noted so far.
use Rattle.std.proofs.Common.{◌≡◌, drop, map}
use Rattle.rx_solve.specs.Answers.{IsSolver}
use Rattle.rx_solve.specs.Attempts.{first_applying}
use Rattle.rx_rank.specs.Choices.{first_serving, from_target, pairs_from}
use Rattle.rx_rank.specs.Numbers.{by_numbers}
use Rattle.rx_rank.specs.Tries.{noting}
use Rattle.rx_rank.proofs.quick.first_serving.Given as goal

abbrev pub invariant-loop-at : goal.invariant-loop-at
invariant-loop-at g l = record {
  solver : IsSolver g.S.FnMut l.solve;
  same : l.numbered ≡ l.fn.numbered;
  decides :
      noting l.noted (first_applying
      (map (from_target l.turn.raised l.turn.arity
      (by_numbers l.fn.numbered.polys l.turn.values.now)
      (pairs_from l.turn.symbol l.fn.numbered.pairs))
      (pairs_from l.turn.symbol (drop l.at l.fn.numbered.pairs))))
      ≡ first_serving l.turn.raised l.turn.arity
      (by_numbers l.fn.numbered.polys l.turn.values.now)
      (pairs_from l.turn.symbol l.fn.numbered.pairs);
}
