-- One more lemma.
use Rattle.rx_search.specs.Known.{known_lemma}
use Rattle.rx_search.proofs.Mapped.{mapped_push}
use Rattle.rx_search.proofs.known.push_lemmas.Goals as goal

pub loop-lemma-preserved : goal.loop-lemma-preserved
loop-lemma-preserved c =
    mapped_push known_lemma c.args.known.now c.loop-lemma.known c.push.new.self
    c.loop-lemma.yielded c.in-Some.lemma c.in_ok-known_lemma.field-0
    c.loop-lemma.invariant c.in_ok-known_lemma.ensures c.in_ok-push.ensures.ok
