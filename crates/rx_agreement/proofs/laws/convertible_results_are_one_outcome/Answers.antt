use Rattle.rx_agreement.proofs.Translated.{return_alike}
use Rattle.rx_agreement.proofs.laws.convertible_results_are_one_outcome.Goals as goal

pub returns : goal.returns
returns c =
    λ integers program scoped f g parts first second t. return_alike integers program scoped f g
    parts first second t
