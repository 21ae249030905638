-- What is left of the symbols decides, with what was noted so far.
use Rattle.std.proofs.Common.{◌≡◌, drop, map}
use Rattle.rx_solve.specs.Answers.{IsSolver}
use Rattle.rx_solve.specs.Attempts.{first_applying}
use Rattle.rx_anchors.specs.Values.{polys_at}
use Rattle.rx_rank.specs.Choices.{choosing, raised_choices}
use Rattle.rx_rank.specs.Tries.{noting}
use Rattle.rx_rank.proofs.choice.first_raised_of.Given as goal

abbrev pub invariant-loop-symbol : goal.invariant-loop-symbol
invariant-loop-symbol g l = record {
  solver : IsSolver g.S.FnMut l.solve;
  same : l.numbered ≡ l.fn.numbered;
  decides :
      noting l.noted (first_applying (map (choosing l.problem.infos.now l.fn.numbered.pairs
      l.problem.anchors.now l.problem.order.now)
      (drop l.symbol-index (raised_choices l.problem.raisable.now (polys_at l.choice)))))
      ≡ first_applying (map (choosing l.problem.infos.now l.fn.numbered.pairs
      l.problem.anchors.now l.problem.order.now)
      (raised_choices l.problem.raisable.now (polys_at l.choice)));
}
