use Rattle.std.proofs.Common.{length}
use Rattle.rx_relations.proofs.Multiplying.{Multiplying}
use Rattle.rx_relations.proofs.products.products_of.Given as goal

abbrev pub invariant-loop-first : goal.invariant-loop-first
invariant-loop-first l =
    Multiplying l.made l.rest l.places

abbrev pub decreases-loop-first : goal.decreases-loop-first
decreases-loop-first l = length l.rest
