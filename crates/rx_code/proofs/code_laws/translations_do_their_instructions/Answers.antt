use Rattle.rx_code.proofs.CodeLawsTranslations.{translation_does}
use Rattle.rx_code.proofs.code_laws.translations_do_their_instructions.Goals as goal

pub returns : goal.returns
returns c =
    λ integers program scoped f g parts first second t. translation_does integers program scoped f g
    parts first
    second t
