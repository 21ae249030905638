-- No rule so far applies; those that are left decide, with what was noted.
use Rattle.rx_solve.specs.Answers.{IsSolver}
use Rattle.rx_moves.proofs.RuleWalk.{TryingAt}
use Rattle.rx_moves.proofs.rules.find_rules.Given as goal

abbrev pub invariant-loop-at : goal.invariant-loop-at
invariant-loop-at g l = record {
  solver : IsSolver g.S.FnMut l.solve;
  trying : TryingAt l.rules l.goal l.side l.from l.noted l.at;
}
