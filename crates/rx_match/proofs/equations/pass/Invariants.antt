-- What is set so far, and then by the rows that are left, is all.
use Rattle.std.proofs.Common.{drop}
use Rattle.rx_plain.proofs.FoldedInOrder.{Folding}
use Rattle.rx_match.specs.Equations.{pass, set_by_row}
use Rattle.rx_match.proofs.equations.pass.Given as goal

abbrev pub invariant-loop-row : goal.invariant-loop-row
invariant-loop-row l =
    Folding set_by_row l.settings (drop l.row-index l.rows) (pass l.rows l.initial.settings)
