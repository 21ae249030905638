use Rattle.std.proofs.Common.{◌≡◌, drop}
use Rattle.rx_refuter_laws.specs.Leaves.{have_polys}
use Rattle.rx_refuter_laws.proofs.laws.rows_have_polynomials.Given as goal

abbrev pub invariant-loop-row : goal.invariant-loop-row
invariant-loop-row l = have_polys (drop l.row-index l.rows) ≡ have_polys l.rows
