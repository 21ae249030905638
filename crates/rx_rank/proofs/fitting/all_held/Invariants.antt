-- The pairs so far hold, and what is left decides.
use Rattle.std.proofs.Common.{◌≡◌, drop, take}
use Rattle.std.specs.List.{AllZip}
use Rattle.rx_solve.specs.Answers.{IsSolver}
use Rattle.rx_rank.specs.Answers.{IsHeld}
use Rattle.rx_rank.specs.Choices.{all_hold}
use Rattle.rx_rank.proofs.fitting.all_held.Given as goal

abbrev pub invariant-loop-known : goal.invariant-loop-known
invariant-loop-known g l = record {
  solver : IsSolver g.S.FnMut l.solve;
  same : l.pairs ≡ l.fn.pairs;
  decides : all_hold l.values (drop l.known-index l.pairs) ≡ all_hold l.values l.fn.pairs;
  held : AllZip (IsHeld l.values) (take l.known-index l.pairs) l.all.items;
}
