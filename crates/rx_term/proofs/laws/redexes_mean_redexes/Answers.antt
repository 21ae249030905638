use Rattle.rx_term.proofs.RedexLaws.{redex_ground}
use Rattle.rx_term.proofs.laws.redexes_mean_redexes.Goals as goal

pub returns-clause-ground : goal.returns-clause-ground
returns-clause-ground c = redex_ground
