use Rattle.rx_term.proofs.Locality.{hold_too, same_ground_below, same_outer}
use Rattle.rx_term.proofs.laws.variables_alone_decide_the_ground_term.Goals as goal

pub returns-clause-term : goal.returns-clause-term
returns-clause-term c = same_ground_below

pub returns-clause-frames : goal.returns-clause-frames
returns-clause-frames c = same_outer

pub returns-clause-rows : goal.returns-clause-rows
returns-clause-rows c = hold_too
