-- The groups so far are walked.
use Rattle.rx_solve.specs.Answers.{IsSolver}
use Rattle.rx_find_ranks.proofs.WalkLaws.{IsWalked}
use Rattle.rx_find_ranks.proofs.components.fit_groups.Given as goal

abbrev pub invariant-loop-name : goal.invariant-loop-name
invariant-loop-name g l = record {
  solver : IsSolver g.S.FnMut l.solve;
  walked : IsWalked l.problem.kind l.problem.rules.now l.problem.hypotheses.now l.names l.groups l.name l.noted l.fit;
}
