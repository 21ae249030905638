-- Those kept so far, and then those of the rows that are left, are all.
use Rattle.std.proofs.Common.{◌≡◌}
use Rattle.std.specs.List.{fold}
use Rattle.rx_shapes.specs.Bounds.{added, distinct}
use Rattle.rx_shapes.proofs.bounds.distinct.Given as goal

abbrev pub invariant-loop-row : goal.invariant-loop-row
invariant-loop-row l = fold added l.kept l.row-iterator.rest.items ≡ distinct l.fn.rows
