-- Each is a lawful step.
use Rattle.rx_find_lemmas.proofs.AllLawful.{generalisations_are_lemmas}
use Rattle.rx_find_lemmas.proofs.laws.generalisations_of_equations_are_lemmas.Goals as goal

pub returns : goal.returns
returns c = generalisations_are_lemmas
