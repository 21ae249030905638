-- Each pivot in order.
use Rattle.std.proofs.Common.{drop}
use Rattle.rx_plain.proofs.FoldedInOrder.{Folding}
use Rattle.rx_relations.specs.Cancelling.{cancelled}
use Rattle.rx_relations.specs.Reducing.{reduced}
use Rattle.rx_relations.proofs.cancelling.reduced.Given as goal

abbrev pub invariant-loop-pivot : goal.invariant-loop-pivot
invariant-loop-pivot l =
    Folding cancelled l.rest (drop l.pivot-index l.pivots) (reduced l.pivots l.combination)
