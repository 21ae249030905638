-- What is added so far, and then for the rows that are left, is all.
use Rattle.std.proofs.Common.{drop}
use Rattle.rx_plain.specs.Formed.{fold_formed}
use Rattle.rx_plain.proofs.FoldedInOrder.{Folding}
use Rattle.rx_shapes.specs.Bounds.{with_row}
use Rattle.rx_shapes.proofs.bounds.push_rows.Given as goal

abbrev pub invariant-loop-row : goal.invariant-loop-row
invariant-loop-row l =
    Folding (with_row l.args) l.rows (drop l.row-index l.tested)
    (fold_formed (with_row l.args) l.fn.rows l.tested)
