-- Those so far, and then those that are left, are all.
use Rattle.std.proofs.Common.{◌≡◌}
use Rattle.rx_inference.specs.Pieces.{all_pushed}
use Rattle.rx_shapes.proofs.remaining.push_each.Given as goal

abbrev pub invariant-loop-row : goal.invariant-loop-row
invariant-loop-row l = all_pushed l.kept l.row-iterator.rest.items ≡ all_pushed l.fn.kept l.fn.rows
