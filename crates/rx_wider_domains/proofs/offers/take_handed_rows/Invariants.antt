-- What is left of the rows decides.
use Rattle.std.proofs.Common.{◌≡◌, drop}
use Rattle.std.specs.List.{flat_map}
use Rattle.rx_wider_domains.specs.Groups.{taken}
use Rattle.rx_wider_domains.specs.Offers.{handed_row}
use Rattle.rx_wider_domains.proofs.offers.take_handed_rows.Given as goal

abbrev pub invariant-loop-row : goal.invariant-loop-row
invariant-loop-row l =
    taken l.rows (flat_map (handed_row l.places) (drop l.row-index l.handed))
    ≡ taken l.fn.rows (flat_map (handed_row l.places) l.handed)
