-- A round less is left.
use Rattle.rx_has_ranks.proofs.deciding.+decide_from.Given as goal

abbrev pub decreases-decide_from : goal.decreases-decide_from
decreases-decide_from g l = l.left
