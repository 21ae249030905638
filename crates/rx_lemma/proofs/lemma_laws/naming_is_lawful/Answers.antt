-- Step by step.
use Rattle.rx_lemma.proofs.LemmaLawsNamingLaws.{naming_lawful}
use Rattle.rx_lemma.proofs.lemma_laws.naming_is_lawful.Goals as goal

pub returns : goal.returns
returns c = naming_lawful
