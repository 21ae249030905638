-- Those so far, and then those that are left, are all.
use Rattle.std.proofs.Common.{◌≡◌}
use Rattle.rx_inference.specs.Pieces.{all_pushed}
use Rattle.rx_wider.proofs.inside.push_rows.Given as goal

abbrev pub invariant-loop-row : goal.invariant-loop-row
invariant-loop-row l = all_pushed l.rows l.row-iterator.rest.items ≡ all_pushed l.fn.rows l.fn.more
