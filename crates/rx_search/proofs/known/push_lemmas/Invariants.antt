-- The lemmas so far are added.
use Rattle.std.proofs.Common.{◌≡◌, ◌++◌, map}
use Rattle.rx_search.specs.Known.{known_lemma}
use Rattle.rx_search.proofs.known.push_lemmas.Given as goal

abbrev pub invariant-loop-lemma : goal.invariant-loop-lemma
invariant-loop-lemma l = l.known ≡ l.fn.known ++ map known_lemma l.yielded
