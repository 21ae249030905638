-- The groups so far are shown, and the rest decides.
use Rattle.std.proofs.Common.{drop}
use Rattle.rx_solve.specs.Answers.{IsSolver}
use Rattle.rx_settle.proofs.ShowingLaws.{SoFar}
use Rattle.rx_settle.proofs.showing.show_groups.Given as goal

abbrev pub invariant-loop-group : goal.invariant-loop-group
invariant-loop-group g l = record {
  solver : IsSolver g.S.FnMut l.solve;
  so_far : SoFar l.old l.new l.groups l.certs (drop l.group-index l.groups);
}
