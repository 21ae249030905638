use Rattle.std.proofs.Common.{◌+◌, length}
use Rattle.std.specs.Vec.Iter.{into_iter_items}
use Rattle.rx_poly.specs.Order.{mono_cmp}
use Rattle.rx_poly.specs.Terms.{add_terms, first_and_rest}
use Rattle.rx_poly.proofs.Moving.{Moving}
use Rattle.rx_poly.proofs.moved.moved_sum.Given as goal

abbrev pub invariant-loop-first : goal.invariant-loop-first
invariant-loop-first l =
    Moving l.sum (first_and_rest l.first (into_iter_items l.ts))
    (first_and_rest l.second (into_iter_items l.us)) (add_terms mono_cmp l.fn.left l.fn.right)

abbrev pub decreases-loop-first : goal.decreases-loop-first
decreases-loop-first l =
    length (first_and_rest l.first (into_iter_items l.ts)) +
    length (first_and_rest l.second (into_iter_items l.us))
