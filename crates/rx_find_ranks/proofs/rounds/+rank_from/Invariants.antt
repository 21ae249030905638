-- A round less is left.
use Rattle.rx_find_ranks.proofs.rounds.+rank_from.Given as goal

abbrev pub decreases-rank_from : goal.decreases-rank_from
decreases-rank_from g l = l.left
