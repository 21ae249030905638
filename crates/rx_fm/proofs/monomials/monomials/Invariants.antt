use Rattle.std.proofs.Common.{◌≡◌, drop}
use Rattle.std.specs.List.{list_all}
use Rattle.rx_poly.specs.Normal.{is_poly}
use Rattle.rx_fm.specs.Elimination.{monomials, with_all}
use Rattle.rx_fm.proofs.monomials.monomials.Given as goal

abbrev pub invariant-loop-poly : goal.invariant-loop-poly
invariant-loop-poly l =
    (with_all (drop l.poly-index l.polys) l.monos.items ≡ monomials l.polys)
    × (list_all is_poly (drop l.poly-index l.polys) ≡ list_all is_poly l.polys)
