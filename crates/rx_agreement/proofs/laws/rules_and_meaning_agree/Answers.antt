use Rattle.rx_agreement.proofs.Translated.{first_agrees, reached_agree, second_agrees}
use Rattle.rx_agreement.proofs.laws.rules_and_meaning_agree.Goals as goal

pub returns-clause-reached : goal.returns-clause-reached
returns-clause-reached c =
    λ integers program scoped f g parts first second t. reached_agree integers program scoped f g
    parts first second t

pub returns-clause-first : goal.returns-clause-first
returns-clause-first c =
    λ integers program scoped f g parts first second t. first_agrees integers program scoped f g
    parts first second t

pub returns-clause-second : goal.returns-clause-second
returns-clause-second c =
    λ integers program scoped f g parts first second t. second_agrees integers program scoped f g
    parts first second t
