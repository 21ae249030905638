-- What is left of the rows decides.
use Rattle.std.proofs.Common.{◌≡◌, drop}
use Rattle.std.specs.List.{fold}
use Rattle.rx_solve.specs.Answers.{IsSolver}
use Rattle.rx_wider_domains.specs.Finding.{leaving, tried}
use Rattle.rx_wider_domains.proofs.leaving_out.leave_out.Given as goal

abbrev pub invariant-loop-at : goal.invariant-loop-at
invariant-loop-at g l = record {
  solver : IsSolver g.S.FnMut l.solve;
  decides :
      fold (leaving l.aim.rules.now l.aim.goal.now) l.lists.items (drop l.at-index l.rows)
      ≡ fold (leaving l.aim.rules.now l.aim.goal.now) l.fn.lists.items (tried l.fn.lists.items);
}
