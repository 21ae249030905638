-- What is chosen so far, and the number among the choices of the lists before.
use Rattle.std.proofs.Common.{length, reverse}
use Rattle.rx_anchors.specs.Choices.{lists_in}
use Rattle.rx_anchors.specs.Values.{polys_at}
use Rattle.rx_anchors.proofs.Products.{Leaves}
use Rattle.rx_anchors.proofs.choices.choice_at.Given as goal

abbrev pub invariant-loop-last : goal.invariant-loop-last
invariant-loop-last l =
    Leaves (lists_in l.fn.lists) (lists_in l.rest) l.fn.number l.left
    (polys_at (reverse l.choice.items))

abbrev pub decreases-loop-last : goal.decreases-loop-last
decreases-loop-last l = length l.rest
