-- The numbers so far, with those of the symbols that are left, and with what was noted so far.
use Rattle.std.proofs.Common.{◌≡◌, drop}
use Rattle.rx_solve.specs.Answers.{IsSolver}
use Rattle.rx_rank.specs.Choices.{filled}
use Rattle.rx_rank.specs.Numbers.{by_numbers}
use Rattle.rx_rank.specs.Tries.{noting}
use Rattle.rx_rank.proofs.quick.filled.Given as goal

abbrev pub invariant-loop-symbol : goal.invariant-loop-symbol
invariant-loop-symbol g l = record {
  solver : IsSolver g.S.FnMut l.solve;
  same : l.numbered ≡ l.fn.numbered;
  decides :
      noting l.noted (filled l.infos l.fn.numbered.pairs l.raised
      (by_numbers l.fn.numbered.polys l.values.items) (drop l.symbol-index l.order)) ≡
      filled l.infos l.fn.numbered.pairs l.raised
      (by_numbers l.fn.numbered.polys l.fn.start.items) l.order;
}
