-- No hypothesis so far was used; those that are left decide, with what was noted.
use Rattle.std.proofs.Common.{◌≡◌}
use Rattle.rx_solve.specs.Answers.{IsSolver}
use Rattle.rx_settle.proofs.UseWalk.{Using}
use Rattle.rx_settle.proofs.uses.try_uses.Given as goal

abbrev pub invariant-loop-number : goal.invariant-loop-number
invariant-loop-number g l = record {
  solver : IsSolver g.S.FnMut l.solve;
  same : l.state ≡ l.fn.state;
  using : Using l.by.rules.now l.fn.state l.by.how l.noted l.number;
}
