-- What is left of the rows that there were decides.
use Rattle.std.proofs.Common.{◌≡◌, drop}
use Rattle.std.specs.List.{fold}
use Rattle.rx_pairs.specs.Pairs.{part}
use Rattle.rx_solve.specs.Answers.{IsSolver}
use Rattle.rx_find_domains.specs.Finding.{at_occurrence, at_row}
use Rattle.rx_find_domains.proofs.staying.visit_occurrence.Given as goal

abbrev pub invariant-loop-row : goal.invariant-loop-row
invariant-loop-row g l = record {
  solver : IsSolver g.S.FnMut l.solve;
  decides :
      fold (at_row l.given (part l.sym l.args)) l.lists.items (drop l.row-index l.listed)
      ≡ at_occurrence l.given l.fn.lists.items (part l.sym l.args);
}
