-- Each split leaves one less; with as many left, what looks at a part comes before what goes on
-- with it.
use Rattle.std.proofs.Common.{◌+◌, ◌*◌}
use Rattle.rx_find_cover.proofs.building.+building.Given as goal

abbrev pub decreases-build_unless_used : goal.decreases-build_unless_used
decreases-build_unless_used g l = 5 * l.left

abbrev pub decreases-build : goal.decreases-build
decreases-build g l = 5 * l.left + 1

abbrev pub decreases-build_with : goal.decreases-build_with
decreases-build_with g l = 5 * l.left + 2

abbrev pub decreases-build_with_negation : goal.decreases-build_with_negation
decreases-build_with_negation g l = 5 * l.left + 3

abbrev pub decreases-build_split : goal.decreases-build_split
decreases-build_split g l = 5 * l.left + 4
