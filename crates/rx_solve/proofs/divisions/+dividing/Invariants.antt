-- Fewer ratios are left; for as many, what goes on with all comes after what goes on with one.
use Rattle.std.proofs.Common.{◌+◌, ◌*◌, length}
use Rattle.rx_solve.proofs.divisions.+dividing.Given as goal

abbrev pub decreases-divide_in_order : goal.decreases-divide_in_order
decreases-divide_in_order l = 6 * length l.ratios.now

abbrev pub decreases-divide_with : goal.decreases-divide_with
decreases-divide_with l = 6 * length l.ratios.now + 1

abbrev pub decreases-divide_above : goal.decreases-divide_above
decreases-divide_above l = 6 * length l.ratios.now + 2

abbrev pub decreases-divide_below : goal.decreases-divide_below
decreases-divide_below l = 6 * length l.ratios.now + 2

abbrev pub decreases-divide_both : goal.decreases-divide_both
decreases-divide_both l = 6 * length l.rest.now + 3

abbrev pub decreases-divide_by : goal.decreases-divide_by
decreases-divide_by l = 6 * length l.rest.now + 4
