use Rattle.std.proofs.Common.{drop}
use Rattle.rx_plain.proofs.MappedInOrder.{Mapping}
use Rattle.rx_relations.specs.Common.{valued}
use Rattle.rx_relations.proofs.common.all_valued.Given as goal

abbrev pub invariant-loop-poly : goal.invariant-loop-poly
invariant-loop-poly l =
    Mapping (valued l.values) l.made (drop l.poly-index l.basis) l.basis
