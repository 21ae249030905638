use Rattle.rx_pairs.proofs.LoopLaws.{loop_points, rules_within}
use Rattle.rx_pairs.proofs.laws.loop_points_reach_themselves.Goals as goal

pub returns-clause-over : goal.returns-clause-over
returns-clause-over c = rules_within

pub returns-clause-points : goal.returns-clause-points
returns-clause-points c = loop_points
