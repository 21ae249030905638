-- One generalisation after the other.
use Rattle.rx_lemma.proofs.GeneralisingLaws.{generalisations_lawful}
use Rattle.rx_lemma.proofs.lemma_laws.generalisations_are_lawful.Goals as goal

pub returns : goal.returns
returns c = generalisations_lawful
