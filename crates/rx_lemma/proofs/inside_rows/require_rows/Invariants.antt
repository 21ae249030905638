-- The rows that are left decide.
use Rattle.std.proofs.Common.{◌≡◌, drop}
use Rattle.rx_solve.specs.Answers.{IsSolver}
use Rattle.rx_lemma.specs.InsideRows.{rows_required}
use Rattle.rx_lemma.proofs.inside_rows.require_rows.Given as goal

abbrev pub invariant-loop-row : goal.invariant-loop-row
invariant-loop-row g l = record {
  solver : IsSolver g.S.FnMut l.solve;
  decides : rows_required l.with l.given (drop l.row-index l.more) l.rows ≡
      rows_required l.with l.given l.more l.fn.rows;
}
