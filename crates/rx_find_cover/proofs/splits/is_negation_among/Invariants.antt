-- What is left of the rows decides.
use Rattle.std.proofs.Common.{◌≡◌, drop, map}
use Rattle.rx_row.specs.Membership.{stands_among}
use Rattle.rx_row.specs.Negation.{negation}
use Rattle.rx_find_cover.proofs.splits.is_negation_among.Given as goal

abbrev pub invariant-loop-other : goal.invariant-loop-other
invariant-loop-other l =
    stands_among (map negation (drop l.other-index l.rows)) l.row ≡
    stands_among (map negation l.rows) l.row
