use Rattle.rx_relations.specs.Values.{replaced}
use Rattle.rx_relations.proofs.Replacing.{Replacing}
use Rattle.rx_relations.proofs.instance.replaced.Given as goal

abbrev pub invariant-loop-left : goal.invariant-loop-left
invariant-loop-left l =
    Replacing l.left l.rows.items (replaced l.most l.initial.rows.items)

abbrev pub decreases-loop-left : goal.decreases-loop-left
decreases-loop-left l = l.left
