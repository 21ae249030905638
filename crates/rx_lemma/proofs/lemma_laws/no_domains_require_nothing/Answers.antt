-- No rows put anything inside.
use Rattle.rx_lemma.proofs.InsideLaws.{nothing_required}
use Rattle.rx_lemma.proofs.lemma_laws.no_domains_require_nothing.Goals as goal

pub returns : goal.returns
returns c = nothing_required
