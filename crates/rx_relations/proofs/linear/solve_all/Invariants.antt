-- One relation after the other.
use Rattle.std.proofs.Common.{drop}
use Rattle.rx_plain.specs.Formed.{fold_formed}
use Rattle.rx_plain.proofs.FoldedInOrder.{Folding}
use Rattle.rx_relations.specs.Linear.{none_solved, solved_next}
use Rattle.rx_relations.proofs.linear.solve_all.Given as goal

abbrev pub invariant-loop-poly : goal.invariant-loop-poly
invariant-loop-poly l =
    Folding solved_next l.done (drop l.poly-index l.polys) (fold_formed solved_next none_solved l.polys)
