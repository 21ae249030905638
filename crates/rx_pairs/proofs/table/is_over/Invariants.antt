-- What is left of the columns decides.
use Rattle.std.proofs.Common.{◌≡◌, drop}
use Rattle.std.specs.List.{list_all}
use Rattle.rx_poly.specs.Variables.{uses_below}
use Rattle.rx_pairs.proofs.table.is_over.Given as goal

abbrev pub invariant-loop-column : goal.invariant-loop-column
invariant-loop-column l =
    list_all (uses_below l.arity) (drop l.column-index l.rank) ≡
    list_all (uses_below l.arity) l.rank
