use Rattle.rx_agreement.proofs.Translated.{goal_alike}
use Rattle.rx_agreement.proofs.laws.goals_speak_of_both_functions.Goals as goal

pub returns : goal.returns
returns c =
    λ integers program scoped f g parts first second t. goal_alike integers program scoped f g parts
    first second t
