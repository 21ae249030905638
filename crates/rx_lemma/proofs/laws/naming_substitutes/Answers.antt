-- Step by step.
use Rattle.rx_lemma.proofs.SubstitutionLaws as laws
use Rattle.rx_lemma.proofs.laws.naming_substitutes.Goals as goal

pub returns : goal.returns
returns c = laws.naming_substitutes
