use Rattle.rx_code.proofs.CodeLawsTranslations.{translation_made, translation_paired}
use Rattle.rx_code.proofs.code_laws.translations_are_well_made_and_paired.Goals as goal

pub returns-clause-made : goal.returns-clause-made
returns-clause-made c =
    λ integers program scoped f g parts first second t. translation_made integers program scoped f g
    parts first
    second t

pub returns-clause-paired : goal.returns-clause-paired
returns-clause-paired c =
    λ integers program scoped f g parts first second t. translation_paired integers program scoped f
    g parts first
    second t
