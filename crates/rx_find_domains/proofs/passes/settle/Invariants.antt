-- As many passes as are left, over the lists as they are, give the same.
use Rattle.std.proofs.Common.{◌≡◌}
use Rattle.rx_solve.specs.Answers.{IsSolver}
use Rattle.rx_find_domains.specs.Finding.{count_rows, passes}
use Rattle.rx_find_domains.proofs.passes.settle.Given as goal

abbrev pub invariant-loop-left : goal.invariant-loop-left
invariant-loop-left g l = record {
  solver : IsSolver g.S.FnMut l.solve;
  decides :
      passes l.left l.parts l.goal l.lists.items
      ≡ passes (count_rows l.fn.lists.items) l.parts l.goal l.fn.lists.items;
}

abbrev pub decreases-loop-left : goal.decreases-loop-left
decreases-loop-left g l = l.left
