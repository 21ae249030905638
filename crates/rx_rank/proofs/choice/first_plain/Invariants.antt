-- What is left of the choices decides, with what was noted so far.
use Rattle.std.proofs.Common.{◌≡◌, drop, map, take}
use Rattle.rx_solve.specs.Answers.{IsSolver}
use Rattle.rx_solve.specs.Attempts.{first_applying}
use Rattle.rx_anchors.specs.Choices.{lists_in, products}
use Rattle.rx_rank.specs.Choices.{choosing, plain_choice}
use Rattle.rx_rank.specs.Tries.{noting}
use Rattle.rx_rank.proofs.choice.first_plain.Given as goal

abbrev pub invariant-loop-at : goal.invariant-loop-at
invariant-loop-at g l = record {
  solver : IsSolver g.S.FnMut l.solve;
  same : l.numbered.pairs ≡ l.fn.numbered.pairs;
  decides :
      noting l.noted (first_applying (map (choosing l.problem.infos.now l.fn.numbered.pairs
      l.problem.anchors.now l.problem.order.now)
      (drop l.at (map plain_choice (take l.most (products (lists_in l.problem.lists.now)))))))
      ≡ first_applying (map (choosing l.problem.infos.now l.fn.numbered.pairs
      l.problem.anchors.now l.problem.order.now)
      (map plain_choice (take l.most (products (lists_in l.problem.lists.now)))));
}
