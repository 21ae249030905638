use Rattle.rx_code.proofs.CodeLawsTranslations.{reached_entry, translation_carries}
use Rattle.rx_code.proofs.code_laws.translations_carry_code.Goals as goal

pub returns-clause-carried : goal.returns-clause-carried
returns-clause-carried c =
    λ integers program scoped f g parts first second t. translation_carries integers program scoped
    f g parts first
    second t

pub returns-clause-entries : goal.returns-clause-entries
returns-clause-entries c =
    λ integers program scoped f g parts first second t. reached_entry integers program scoped f g
    parts first second t
