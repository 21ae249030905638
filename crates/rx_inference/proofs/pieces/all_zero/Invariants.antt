use Rattle.std.proofs.Common.{◌≡◌}
use Rattle.rx_inference.specs.Pieces.{all_zero}
use Rattle.rx_inference.proofs.pieces.all_zero.Given as goal

abbrev pub invariant-loop-poly : goal.invariant-loop-poly
invariant-loop-poly l = l.rows ≡ all_zero l.yielded
