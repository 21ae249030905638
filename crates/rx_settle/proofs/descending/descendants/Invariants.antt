-- What was found, and what comes in the turns that are left, is what is found in all.
use Rattle.std.proofs.Common.{◌≡◌, [], ◌∷◌}
use Rattle.rx_solve.specs.Answers.{IsSolver}
use Rattle.rx_settle.specs.Known.{AreKnown}
use Rattle.rx_settle.specs.Settling.{most_moves}
use Rattle.rx_settle.specs.TaskAnswers.{found_from}
use Rattle.rx_settle.specs.Tasks.{descend, each_with}
use Rattle.rx_settle.proofs.descending.descendants.Given as goal

abbrev pub invariant-loop-alloc : goal.invariant-loop-alloc
invariant-loop-alloc g l = record {
  known : AreKnown l.rules l.memo;
  solver : IsSolver g.S.FnMut l.solve;
  found : found_from l.rules l.descent ≡ descend l.rules most_moves
      (each_with l.task (record { goals = l.goal ∷ []; hypotheses = l.hypotheses }));
}

abbrev pub decreases-loop-alloc : goal.decreases-loop-alloc
decreases-loop-alloc g l = l.descent.left
