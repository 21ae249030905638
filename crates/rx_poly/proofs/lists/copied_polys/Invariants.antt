use Rattle.std.proofs.Common.{◌≡◌, take}
use Rattle.rx_poly.proofs.lists.copied_polys.Given as goal

abbrev pub invariant-loop-poly : goal.invariant-loop-poly
invariant-loop-poly l = l.made ≡ take l.poly-index l.polys
