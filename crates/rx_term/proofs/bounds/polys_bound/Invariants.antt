-- The greatest so far and of the polynomials that are left is that of all.
use Rattle.std.proofs.Common.{◌≡◌, drop, max}
use Rattle.rx_term.specs.Bounds.{polys_bound}
use Rattle.rx_term.proofs.bounds.polys_bound.Given as goal

abbrev pub invariant-loop-poly : goal.invariant-loop-poly
invariant-loop-poly l = max l.bound (polys_bound (drop l.poly-index l.polys)) ≡ polys_bound l.polys
