use Rattle.std.proofs.Common.{◌≡◌, ◌++◌, length}
use Rattle.std.specs.Vec.Iter.{into_iter_items}
use Rattle.rx_poly.specs.Terms.{first_and_rest}
use Rattle.rx_poly.proofs.moved.push_rest.Given as goal

abbrev pub invariant-loop-next : goal.invariant-loop-next
invariant-loop-next l =
    l.terms ++ first_and_rest l.next (into_iter_items l.rest)
    ≡ l.initial.terms ++ first_and_rest l.fn.first (into_iter_items l.fn.more)

abbrev pub decreases-loop-next : goal.decreases-loop-next
decreases-loop-next l = length (first_and_rest l.next (into_iter_items l.rest))
