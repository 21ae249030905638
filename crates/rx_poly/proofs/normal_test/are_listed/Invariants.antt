use Rattle.std.proofs.Common.{◌≡◌, length}
use Rattle.rx_poly.specs.Order.{mono_cmp}
use Rattle.rx_poly.specs.Terms.{is_sparse_sorted}
use Rattle.rx_poly.proofs.normal_test.are_listed.Given as goal

abbrev pub invariant-loop-term : goal.invariant-loop-term
invariant-loop-term l = is_sparse_sorted mono_cmp l.rest ≡ is_sparse_sorted mono_cmp l.terms

abbrev pub decreases-loop-term : goal.decreases-loop-term
decreases-loop-term l = length l.rest
