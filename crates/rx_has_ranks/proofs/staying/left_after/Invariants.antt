-- What is left of the components so far.
use Rattle.rx_solve.specs.Answers.{IsSolver}
use Rattle.rx_rank.specs.Answers.{pairs_at}
use Rattle.rx_has_ranks.proofs.StayingLaws.{IsLeft}
use Rattle.rx_has_ranks.proofs.staying.left_after.Given as goal

abbrev pub invariant-loop-name : goal.invariant-loop-name
invariant-loop-name g l = record {
  solver : IsSolver g.S.FnMut l.solve;
  left : IsLeft l.problem.kind l.problem.rules.now l.problem.hypotheses.now (pairs_at l.opened.pairs.items) l.name l.noted
      (pairs_at l.left.items);
}
