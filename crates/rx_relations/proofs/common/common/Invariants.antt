-- Goal by goal.
use Rattle.std.proofs.Common.{drop}
use Rattle.rx_plain.specs.Formed.{fold_formed}
use Rattle.rx_plain.proofs.FoldedInOrder.{Folding}
use Rattle.rx_relations.specs.Common.{vanishing_at}
use Rattle.rx_relations.proofs.common.common.Given as goal

abbrev pub invariant-loop-goal : goal.invariant-loop-goal
invariant-loop-goal l =
    Folding vanishing_at l.left (drop l.goal-index l.goals)
    (fold_formed vanishing_at l.initial.left l.goals)
