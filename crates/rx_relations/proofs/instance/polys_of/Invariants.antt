use Rattle.std.proofs.Common.{◌≡◌, ◌++◌, drop, map}
use Rattle.rx_row.specs.Parts.{poly_of}
use Rattle.rx_relations.proofs.instance.polys_of.Given as goal

abbrev pub invariant-loop-row : goal.invariant-loop-row
invariant-loop-row l =
    l.polys ++ map poly_of (drop l.row-index l.rows) ≡ map poly_of l.rows
