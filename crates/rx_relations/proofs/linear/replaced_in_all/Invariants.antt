use Rattle.std.proofs.Common.{drop}
use Rattle.rx_plain.proofs.MappedInOrder.{Mapping}
use Rattle.rx_relations.specs.Linear.{replaced_in}
use Rattle.rx_relations.proofs.linear.replaced_in_all.Given as goal

abbrev pub invariant-loop-poly : goal.invariant-loop-poly
invariant-loop-poly l =
    Mapping (λ q. replaced_in q l.with) l.made (drop l.poly-index l.polys) l.polys
