-- Those so far, and then those that are left, are all.
use Rattle.std.proofs.Common.{◌≡◌, drop}
use Rattle.rx_inference.specs.Pieces.{all_pushed}
use Rattle.rx_shapes.proofs.inside.push_copies.Given as goal

abbrev pub invariant-loop-row : goal.invariant-loop-row
invariant-loop-row l =
    all_pushed l.kept (drop l.row-index l.rows) ≡ all_pushed l.fn.kept l.rows
