use Rattle.std.proofs.Common.{◌≡◌, drop}
use Rattle.rx_inference.specs.Pieces.{rises}
use Rattle.rx_inference.proofs.pieces.are_rising.Given as goal

abbrev pub invariant-loop-variable : goal.invariant-loop-variable
invariant-loop-variable l = rises l.from (drop l.variable-index l.with) ≡ rises 0 l.with
