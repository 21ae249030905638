use Rattle.std.proofs.Common.{◌+◌, ◌*◌}
use Rattle.rx_term_words.proofs.trees.+trees.Given as goal

abbrev pub decreases-read_within : goal.decreases-read_within
decreases-read_within l = 3 * l.most

abbrev pub decreases-read_branches : goal.decreases-read_branches
decreases-read_branches l = 3 * l.most + 1

abbrev pub decreases-read_split : goal.decreases-read_split
decreases-read_split l = 3 * l.most + 2
