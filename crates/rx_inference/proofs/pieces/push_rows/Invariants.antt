use Rattle.std.proofs.Common.{◌≡◌}
use Rattle.rx_inference.specs.Pieces.{all_pushed}
use Rattle.rx_inference.proofs.pieces.push_rows.Given as goal

abbrev pub invariant-loop-row : goal.invariant-loop-row
invariant-loop-row l = l.rows ≡ all_pushed l.fn.rows l.yielded
