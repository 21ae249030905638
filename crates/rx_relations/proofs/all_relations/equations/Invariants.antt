use Rattle.std.proofs.Common.{◌≡◌, map}
use Rattle.rx_row.specs.declared.row.Row.TheVariants.{Eq}
use Rattle.rx_relations.proofs.all_relations.equations.Given as goal

abbrev pub invariant-loop-poly : goal.invariant-loop-poly
invariant-loop-poly l =
    l.rows ≡ map Eq l.yielded
