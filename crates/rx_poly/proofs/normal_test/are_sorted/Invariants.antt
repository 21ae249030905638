use Rattle.std.proofs.Common.{◌≡◌, length}
use Rattle.rx_poly.specs.Normal.{is_sorted}
use Rattle.rx_poly.specs.Order.{atom_cmp}
use Rattle.rx_poly.proofs.normal_test.are_sorted.Given as goal

abbrev pub invariant-loop-atom : goal.invariant-loop-atom
invariant-loop-atom l = is_sorted atom_cmp l.rest ≡ is_sorted atom_cmp l.atoms

abbrev pub decreases-loop-atom : goal.decreases-loop-atom
decreases-loop-atom l = length l.rest
