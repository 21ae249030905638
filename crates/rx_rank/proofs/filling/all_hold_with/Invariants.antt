-- What is left of the pairs decides.
use Rattle.std.proofs.Common.{◌≡◌, drop}
use Rattle.rx_solve.specs.Answers.{IsSolver}
use Rattle.rx_rank.specs.Choices.{hold_with, pairs_from}
use Rattle.rx_rank.proofs.filling.all_hold_with.Given as goal

abbrev pub invariant-loop-known : goal.invariant-loop-known
invariant-loop-known g l = record {
  solver : IsSolver g.S.FnMut l.solve;
  same : l.pairs ≡ l.fn.pairs;
  decides : hold_with l.values l.poly (pairs_from l.symbol (drop l.known-index l.pairs)) ≡
      hold_with l.values l.poly (pairs_from l.symbol l.fn.pairs);
}
