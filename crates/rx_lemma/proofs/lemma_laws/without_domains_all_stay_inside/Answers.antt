-- No rows put anything inside.
use Rattle.rx_lemma.proofs.InsideLaws.{stays_inside}
use Rattle.rx_lemma.proofs.lemma_laws.without_domains_all_stay_inside.Goals as goal

pub returns : goal.returns
returns c = stays_inside
