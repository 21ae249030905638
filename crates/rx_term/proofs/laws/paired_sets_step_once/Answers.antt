use Rattle.rx_term.proofs.CoveredLaws.{covered_moves_everywhere}
use Rattle.rx_term.proofs.PairedLaws.{paired_covers}
use Rattle.rx_term.proofs.laws.paired_sets_step_once.Goals as goal

pub returns-clause-moves : goal.returns-clause-moves
returns-clause-moves c =
    λ parts made paired. covered_moves_everywhere parts made (paired_covers parts paired)
