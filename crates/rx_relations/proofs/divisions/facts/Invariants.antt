-- Those made so far, and of the divisions that are left, are all.
use Rattle.std.proofs.Common.{drop}
use Rattle.rx_plain.proofs.MappedInOrder.{Mapping}
use Rattle.rx_relations.specs.Divisions.{fact_formed}
use Rattle.rx_relations.proofs.divisions.facts.Given as goal

abbrev pub invariant-loop-division : goal.invariant-loop-division
invariant-loop-division l =
    Mapping fact_formed l.made (drop l.division-index l.division-items) l.division-items
