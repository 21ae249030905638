use Rattle.rx_code.proofs.CodeLawsTranslations.{left_fits, right_fits}
use Rattle.rx_code.proofs.code_laws.goals_fit_their_translation.Goals as goal

pub returns-clause-left : goal.returns-clause-left
returns-clause-left c =
    λ integers program scoped f g parts first second t. left_fits integers program scoped f g parts
    first second t

pub returns-clause-right : goal.returns-clause-right
returns-clause-right c =
    λ integers program scoped f g parts first second t. right_fits integers program scoped f g parts
    first second t
