-- One place after the other.
use Rattle.std.proofs.Common.{drop}
use Rattle.rx_plain.specs.Formed.{fold_formed}
use Rattle.rx_plain.proofs.FoldedInOrder.{Folding}
use Rattle.rx_relations.specs.Linear.{replaced_in}
use Rattle.rx_relations.proofs.linear.all_replaced_in.Given as goal

abbrev pub invariant-loop-pair : goal.invariant-loop-pair
invariant-loop-pair l =
    Folding replaced_in l.relation (drop l.pair-index l.with) (fold_formed replaced_in l.poly l.with)
