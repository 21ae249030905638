-- What is left decides, by whether a variable was seen.
use Rattle.std.proofs.Common.{◌≡◌, drop, false}
use Rattle.rx_lemma.specs.Values.{valued_from}
use Rattle.rx_lemma.proofs.values.are_valued.Given as goal

abbrev pub invariant-loop-term : goal.invariant-loop-term
invariant-loop-term l = valued_from l.seen (drop l.term-index l.terms) ≡ valued_from false l.terms
