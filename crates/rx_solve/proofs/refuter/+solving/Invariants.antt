-- One replacement less is left.
use Rattle.std.proofs.Common.{◌+◌, ◌*◌}
use Rattle.rx_solve.proofs.refuter.+solving.Given as goal

abbrev pub decreases-solve_in_order : goal.decreases-solve_in_order
decreases-solve_in_order l = 3 * l.left

abbrev pub decreases-replace_by : goal.decreases-replace_by
decreases-replace_by l = 3 * l.left + 1

abbrev pub decreases-replace : goal.decreases-replace
decreases-replace l = 3 * l.left + 2
