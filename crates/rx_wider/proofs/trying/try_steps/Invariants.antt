-- The steps that were taken so far lead to the state, and the others are left.
use Rattle.std.proofs.Common.{length}
use Rattle.rx_solve.specs.Answers.{IsSolver}
use Rattle.rx_wider.proofs.Walking.{Walking}
use Rattle.rx_wider.proofs.trying.try_steps.Given as goal

abbrev pub invariant-loop-step : goal.invariant-loop-step
invariant-loop-step g l = record {
  solver : IsSolver g.S.FnMut l.solve;
  walking : Walking l.rules l.fn.state l.steps l.state l.made l.rest;
}

abbrev pub decreases-loop-step : goal.decreases-loop-step
decreases-loop-step g l = length l.rest
