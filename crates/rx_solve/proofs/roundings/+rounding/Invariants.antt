-- Fewer roundings are left; for as many, what goes on with all comes after what goes on with one.
use Rattle.std.proofs.Common.{◌+◌, ◌*◌, length}
use Rattle.rx_solve.proofs.roundings.+rounding.Given as goal

abbrev pub decreases-round_in_order : goal.decreases-round_in_order
decreases-round_in_order l = 3 * length l.roundings.now

abbrev pub decreases-round_with : goal.decreases-round_with
decreases-round_with l = 3 * length l.roundings.now + 1

abbrev pub decreases-round_by : goal.decreases-round_by
decreases-round_by l = 3 * length l.rest.now + 2
