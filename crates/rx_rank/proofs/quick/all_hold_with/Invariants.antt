-- What is left of the pairs decides.
use Rattle.std.proofs.Common.{◌≡◌, Some, drop, slice_get}
use Rattle.rx_poly.specs.declared.body.Body.{Body}
use Rattle.rx_solve.specs.Answers.{IsSolver}
use Rattle.rx_rank.specs.Choices.{hold_with, pairs_from}
use Rattle.rx_rank.specs.Numbers.{by_numbers}
use Rattle.rx_rank.proofs.quick.all_hold_with.Given as goal

abbrev pub invariant-loop-at : goal.invariant-loop-at
invariant-loop-at g l = record {
  solver : IsSolver g.S.FnMut l.solve;
  same : l.numbered ≡ l.fn.numbered;
  decides : (p : Body) → slice_get l.fn.numbered.polys l.number ≡ Some p →
      hold_with (by_numbers l.fn.numbered.polys l.turn.values.now) p
      (pairs_from l.turn.symbol (drop l.at l.fn.numbered.pairs)) ≡
      hold_with (by_numbers l.fn.numbered.polys l.turn.values.now) p
      (pairs_from l.turn.symbol l.fn.numbered.pairs);
}
