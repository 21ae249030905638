-- Those so far, and then those of the part in hand, are all.
use Rattle.std.proofs.Common.{◌≡◌, ◌++◌}
use Rattle.rx_term.specs.Stacks.{depth_of}
use Rattle.rx_lemma.specs.Repeated.{occurrences_in}
use Rattle.rx_lemma.proofs.repeated.push_occurrences.Given as goal

abbrev pub invariant-loop-here : goal.invariant-loop-here
invariant-loop-here l =
    l.occurrences.items ++ occurrences_in l.here ≡ l.fn.occurrences.items ++ occurrences_in l.term

abbrev pub decreases-loop-here : goal.decreases-loop-here
decreases-loop-here l = depth_of l.here
