-- Fewer disequalities are left; for as many, what goes on with all comes after what goes on with
-- one.
use Rattle.std.proofs.Common.{◌+◌, ◌*◌, length}
use Rattle.rx_solve.proofs.disequalities.+differing.Given as goal

abbrev pub decreases-differ_in_order : goal.decreases-differ_in_order
decreases-differ_in_order l = 6 * length l.places.now

abbrev pub decreases-differ_with : goal.decreases-differ_with
decreases-differ_with l = 6 * length l.places.now + 1

abbrev pub decreases-differ_above : goal.decreases-differ_above
decreases-differ_above l = 6 * length l.places.now + 2

abbrev pub decreases-differ_below : goal.decreases-differ_below
decreases-differ_below l = 6 * length l.places.now + 2

abbrev pub decreases-differ_both : goal.decreases-differ_both
decreases-differ_both l = 6 * length l.rest.now + 3

abbrev pub decreases-differ_at : goal.decreases-differ_at
decreases-differ_at l = 6 * length l.rest.now + 4
