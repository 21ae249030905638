-- The rows so far are shown, and what is left of the list decides.
use Rattle.std.proofs.Common.{◌≡◌, drop}
use Rattle.rx_solve.specs.Answers.{IsSolver}
use Rattle.rx_solve.proofs.Proving.{Proving}
use Rattle.rx_solve.proofs.showing.show_in_order.Given as goal

abbrev pub invariant-loop-row : goal.invariant-loop-row
invariant-loop-row g l = record {
  solver : IsSolver g.S.FnMut l.solve;
  asked : l.asked ≡ l.given;
  proving : Proving l.given l.rows l.row-index (drop l.row-index l.rows) l.certs;
}
