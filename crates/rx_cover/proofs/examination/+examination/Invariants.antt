-- The trees inside are less deep; of one depth, what looks inside comes before what goes on with a
-- part.
use Rattle.std.proofs.Common.{◌+◌, ◌*◌, max}
use Rattle.rx_cover.specs.Depth.{tree_depth}
use Rattle.rx_cover.proofs.examination.+examination.Given as goal

abbrev pub decreases-examine : goal.decreases-examine
decreases-examine l = 3 * tree_depth l.tree.now

abbrev pub decreases-examine_with : goal.decreases-examine_with
decreases-examine_with l = 3 * tree_depth l.tree.now + 1

abbrev pub decreases-examine_split : goal.decreases-examine_split
decreases-examine_split l = 3 * max (tree_depth l.yes.now) (tree_depth l.no.now) + 2
