-- What is left of the pairs decides.
use Rattle.std.proofs.Common.{◌≡◌, drop}
use Rattle.rx_solve.specs.Answers.{IsSolver}
use Rattle.rx_rank.specs.Choices.{all_hold}
use Rattle.rx_rank.specs.Numbers.{by_numbers}
use Rattle.rx_rank.proofs.quick.are_held.Given as goal

abbrev pub invariant-loop-at : goal.invariant-loop-at
invariant-loop-at g l = record {
  solver : IsSolver g.S.FnMut l.solve;
  same : l.numbered ≡ l.fn.numbered;
  decides : all_hold (by_numbers l.fn.numbered.polys l.values) (drop l.at l.fn.numbered.pairs) ≡
      all_hold (by_numbers l.fn.numbered.polys l.values) l.fn.numbered.pairs;
}
