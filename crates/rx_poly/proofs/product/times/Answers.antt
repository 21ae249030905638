-- The atoms of a normal monomial are sorted.
use Rattle.rx_poly.proofs.ProductLaws.{normal_atoms}
use Rattle.rx_poly.proofs.product.times.Goals as goal

pub join-requires-clause-left : goal.join-requires-clause-left
join-requires-clause-left c =
    rw c.as_slice.ensures ((normal_atoms c.args.left.now c.requires.left).sorted)

pub join-requires-clause-right : goal.join-requires-clause-right
join-requires-clause-right c =
    rw c.as_slice-2.ensures ((normal_atoms c.args.right.now c.requires.right).sorted)
