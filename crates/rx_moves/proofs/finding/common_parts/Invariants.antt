-- What is left of both lists decides how many more are common.
use Rattle.std.proofs.Common.{length}
use Rattle.rx_solve.specs.Answers.{IsSolver}
use Rattle.rx_moves.proofs.SuffixLaws.{Along}
use Rattle.rx_moves.proofs.finding.common_parts.Given as goal

abbrev pub invariant-loop-left : goal.invariant-loop-left
invariant-loop-left g l = record {
  solver : IsSolver g.S.FnMut l.solve;
  along : Along l.given l.parts l.rest.items l.others.items l.fn.lefts.items l.fn.rights.items;
}

abbrev pub decreases-loop-left : goal.decreases-loop-left
decreases-loop-left g l = length l.rest.items
