-- The part of the term that is left decides.
use Rattle.std.proofs.Common.{◌≡◌}
use Rattle.std.specs.List.{fold}
use Rattle.rx_term.specs.Stacks.{depth_of}
use Rattle.rx_find_domains.specs.Parts.{occurrences_of}
use Rattle.rx_wider_domains.specs.Walks.{at_occurrence}
use Rattle.rx_wider_domains.proofs.listing.visit_term.Given as goal

abbrev pub invariant-loop-here : goal.invariant-loop-here
invariant-loop-here l =
    fold (at_occurrence l.names l.offering) l.lists.items (occurrences_of l.here)
    ≡ fold (at_occurrence l.names l.offering) l.fn.lists.items (occurrences_of l.term)

abbrev pub decreases-loop-here : goal.decreases-loop-here
decreases-loop-here l = depth_of l.here
