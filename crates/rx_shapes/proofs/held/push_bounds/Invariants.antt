-- What is added so far, and then for the rows that are left, is all.
use Rattle.std.proofs.Common.{drop}
use Rattle.rx_plain.specs.Formed.{fold_formed}
use Rattle.rx_plain.proofs.FoldedInOrder.{Folding}
use Rattle.rx_shapes.specs.GoalBounds.{with_bound}
use Rattle.rx_shapes.proofs.held.push_bounds.Given as goal

abbrev pub invariant-loop-row : goal.invariant-loop-row
invariant-loop-row l =
    Folding (with_bound l.placed) l.rows (drop l.row-index l.held)
    (fold_formed (with_bound l.placed) l.fn.rows l.held)
