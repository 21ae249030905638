use Rattle.std.proofs.Common.{◌≡◌}
use Rattle.rx_fm.specs.Numbers.{gcd}
use Rattle.rx_relations.proofs.content.gcd.Given as goal

abbrev pub invariant-loop-y : goal.invariant-loop-y
invariant-loop-y l =
    gcd l.x l.y ≡ gcd l.fn.left l.fn.right

abbrev pub decreases-loop-y : goal.decreases-loop-y
decreases-loop-y l = l.y
