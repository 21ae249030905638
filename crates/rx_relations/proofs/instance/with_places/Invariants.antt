use Rattle.std.proofs.Common.{◌≡◌, ◌++◌, drop, map, take}
use Rattle.rx_row.specs.declared.row.Row.TheVariants.{Ne}
use Rattle.rx_relations.specs.Values.{with_places}
use Rattle.rx_relations.proofs.instance.with_places.Given as goal

abbrev pub invariant-loop-row : goal.invariant-loop-row
invariant-loop-row l =
    l.made.items ≡ take l.row-index l.rows

abbrev pub invariant-loop-place : goal.invariant-loop-place
invariant-loop-place l =
    l.made.items ++ map Ne (drop l.place-index l.places) ≡ with_places l.rows l.places
