use Rattle.std.proofs.Common.{◌+◌, length}
use Rattle.rx_poly.specs.Order.{mono_cmp}
use Rattle.rx_poly.specs.Signs.{with_sign}
use Rattle.rx_poly.specs.Terms.{add_terms}
use Rattle.rx_poly.proofs.Merging.{Merging}
use Rattle.rx_poly.proofs.merge.merge.Given as goal

abbrev pub invariant-loop-t : goal.invariant-loop-t
invariant-loop-t l =
    Merging l.sum l.ts (with_sign l.sign l.us)
    (add_terms mono_cmp l.fn.left (with_sign l.sign l.fn.right))

abbrev pub decreases-loop-t : goal.decreases-loop-t
decreases-loop-t l = length l.ts + length l.us
