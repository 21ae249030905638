-- What is left of the pairs decides.
use Rattle.std.proofs.Common.{◌≡◌, drop}
use Rattle.rx_solve.specs.Answers.{IsSolver}
use Rattle.rx_rank.specs.Choices.{all_hold}
use Rattle.rx_rank.proofs.fitting.are_held.Given as goal

abbrev pub invariant-loop-known : goal.invariant-loop-known
invariant-loop-known g l = record {
  solver : IsSolver g.S.FnMut l.solve;
  same : l.pairs ≡ l.fn.pairs;
  decides : all_hold l.values (drop l.known-index l.pairs) ≡ all_hold l.values l.fn.pairs;
}
