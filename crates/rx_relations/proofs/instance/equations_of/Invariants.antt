use Rattle.std.proofs.Common.{◌≡◌, ◌++◌, drop}
use Rattle.std.specs.List.{filter_map}
use Rattle.rx_relations.specs.Values.{equation_of}
use Rattle.rx_relations.proofs.instance.equations_of.Given as goal

abbrev pub invariant-loop-row : goal.invariant-loop-row
invariant-loop-row l =
    l.equations ++ filter_map equation_of (drop l.row-index l.rows) ≡ filter_map equation_of l.rows
