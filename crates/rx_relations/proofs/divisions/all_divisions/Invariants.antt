-- The divisions so far, and of the polynomials that are left, are those of all.
use Rattle.std.proofs.Common.{◌≡◌, ◌++◌, drop}
use Rattle.std.specs.List.{flat_map}
use Rattle.rx_relations.specs.Divisions.{divisions_in}
use Rattle.rx_relations.proofs.divisions.all_divisions.Given as goal

abbrev pub invariant-loop-poly : goal.invariant-loop-poly
invariant-loop-poly l =
    l.found ++ flat_map divisions_in (drop l.poly-index l.polys) ≡ flat_map divisions_in l.polys
