use Rattle.rx_term.specs.Covered.{everywhere}
use Rattle.rx_term.proofs.CoveredLaws.{can_step, covered_moves_everywhere}
use Rattle.rx_term.proofs.laws.covered_sets_step.Goals as goal

pub returns-clause-rule : goal.returns-clause-rule
returns-clause-rule c =
    λ parts covered t a is fits. can_step parts everywhere covered t a is fits tt

pub returns-clause-moves : goal.returns-clause-moves
returns-clause-moves c = covered_moves_everywhere
