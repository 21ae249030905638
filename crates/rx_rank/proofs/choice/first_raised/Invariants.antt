-- What is left of the choices decides, with what was noted so far.
use Rattle.std.proofs.Common.{◌≡◌, drop, map, take}
use Rattle.std.specs.List.{flat_map}
use Rattle.rx_solve.specs.Answers.{IsSolver}
use Rattle.rx_solve.specs.Attempts.{first_applying}
use Rattle.rx_anchors.specs.Choices.{lists_in, products}
use Rattle.rx_rank.specs.Choices.{choosing, raised_choices}
use Rattle.rx_rank.specs.Tries.{noting}
use Rattle.rx_rank.proofs.choice.first_raised.Given as goal

abbrev pub invariant-loop-at : goal.invariant-loop-at
invariant-loop-at g l = record {
  solver : IsSolver g.S.FnMut l.solve;
  same : l.numbered.pairs ≡ l.fn.numbered.pairs;
  decides :
      noting l.noted (first_applying (map (λ polys. first_applying
      (map (choosing l.problem.infos.now l.fn.numbered.pairs l.problem.anchors.now
      l.problem.order.now) (raised_choices l.problem.raisable.now polys)))
      (drop l.at (take l.most (products (lists_in l.problem.lists.now))))))
      ≡ first_applying (map (choosing l.problem.infos.now l.fn.numbered.pairs
      l.problem.anchors.now l.problem.order.now)
      (flat_map (raised_choices l.problem.raisable.now) (take l.most (products (lists_in
      l.problem.lists.now)))));
}
