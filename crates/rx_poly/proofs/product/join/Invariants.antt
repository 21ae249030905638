use Rattle.std.proofs.Common.{◌+◌, length}
use Rattle.rx_poly.specs.Order.{atom_cmp}
use Rattle.rx_poly.specs.Products.{join_sorted}
use Rattle.rx_poly.proofs.Joining.{Joining}
use Rattle.rx_poly.proofs.product.join.Given as goal

abbrev pub invariant-loop-x : goal.invariant-loop-x
invariant-loop-x l = Joining l.joined l.xs l.ys (join_sorted atom_cmp l.fn.left l.fn.right)

abbrev pub decreases-loop-x : goal.decreases-loop-x
decreases-loop-x l = length l.xs + length l.ys
