-- What is left decides.
use Rattle.std.proofs.Common.{◌≡◌, drop}
use Rattle.std.specs.List.{list_all}
use Rattle.rx_row.specs.Membership.{stands_among}
use Rattle.rx_shapes.proofs.inside.stays_inside.Given as goal

abbrev pub invariant-loop-row : goal.invariant-loop-row
invariant-loop-row l =
    list_all (stands_among l.shape.bounds) (drop l.row-index l.shape.inside) ≡
    list_all (stands_among l.shape.bounds) l.shape.inside
