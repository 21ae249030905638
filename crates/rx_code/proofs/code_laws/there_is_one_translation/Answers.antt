use Rattle.rx_code.proofs.CodeLawsTranslations.{not_beyond, one_translation}
use Rattle.rx_code.proofs.code_laws.there_is_one_translation.Goals as goal

pub returns-clause-parts : goal.returns-clause-parts
returns-clause-parts c =
    λ integers program f g parts others first second third fourth one two.
    (one_translation integers program f g parts others first second third fourth one two).parts_same

pub returns-clause-first : goal.returns-clause-first
returns-clause-first c =
    λ integers program f g parts others first second third fourth one two.
    (one_translation integers program f g parts others first second third fourth one two).first_same

pub returns-clause-second : goal.returns-clause-second
returns-clause-second c =
    λ integers program f g parts others first second third fourth one two.
    (one_translation integers program f g parts others first second third fourth one
    two).second_same

pub returns-clause-apart : goal.returns-clause-apart
returns-clause-apart c =
    λ integers program f g parts first second t beyond. not_beyond integers program f g parts first
    second t beyond
