use Rattle.std.proofs.Common.{◌≡◌, drop}
use Rattle.rx_cert.specs.Elimination.{are_opposite}
use Rattle.rx_cert.proofs.elimination.are_opposites.Given as goal

abbrev pub invariant-loop-term : goal.invariant-loop-term
invariant-loop-term l =
    are_opposite (drop l.term-index l.left) l.others ≡ are_opposite l.left l.right
