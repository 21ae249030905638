-- Each combination in order.
use Rattle.std.proofs.Common.{drop}
use Rattle.rx_plain.specs.Formed.{fold_formed}
use Rattle.rx_plain.proofs.FoldedInOrder.{Folding}
use Rattle.rx_relations.specs.Reducing.{none_taken, taken}
use Rattle.rx_relations.proofs.reduction.reduce_all.Given as goal

abbrev pub invariant-loop-combination : goal.invariant-loop-combination
invariant-loop-combination l =
    Folding taken l.done (drop l.combination-index l.combinations)
    (fold_formed taken none_taken l.combinations)
