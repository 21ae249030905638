use Rattle.rx_domain.proofs.Kept.{goal_inside, steps_stay_inside}
use Rattle.rx_domain.proofs.laws.kept_domains_are_never_left.Goals as goal

pub returns-clause-goal : goal.returns-clause-goal
returns-clause-goal c = goal_inside

pub returns-clause-steps : goal.returns-clause-steps
returns-clause-steps c = λ parts made good goal lists kept.
    steps_stay_inside parts good goal lists kept made
