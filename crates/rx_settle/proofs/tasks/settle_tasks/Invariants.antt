-- The moves so far, and those that settle what there is now, settle the first state.
use Rattle.rx_solve.specs.Answers.{IsSolver}
use Rattle.rx_settle.specs.Known.{AreKnown}
use Rattle.rx_settle.proofs.TaskedSettling.{Moving}
use Rattle.rx_settle.proofs.tasks.settle_tasks.Given as goal

abbrev pub invariant-loop-settled : goal.invariant-loop-settled
invariant-loop-settled g l = record {
  known : AreKnown l.rules l.memo;
  solver : IsSolver g.S.FnMut l.solve;
  moving : Moving l.rules l.fn.at l.at l.settled;
}

abbrev pub decreases-loop-settled : goal.decreases-loop-settled
decreases-loop-settled g l = l.settled.left
