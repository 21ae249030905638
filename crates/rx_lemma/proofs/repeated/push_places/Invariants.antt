-- Those so far, and then those that are left, are all.
use Rattle.std.proofs.Common.{◌≡◌, ◌++◌, drop}
use Rattle.rx_lemma.specs.Repeated.{occurrences_from}
use Rattle.rx_lemma.proofs.repeated.push_places.Given as goal

abbrev pub invariant-loop-place : goal.invariant-loop-place
invariant-loop-place l =
    l.occurrences.items ++ occurrences_from l.symbol l.place (drop l.place l.polys) ≡
    l.fn.occurrences.items ++ occurrences_from l.symbol 0 l.polys
