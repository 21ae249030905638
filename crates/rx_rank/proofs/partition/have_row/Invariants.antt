-- What is left of the lists decides.
use Rattle.std.proofs.Common.{◌≡◌, drop, not}
use Rattle.std.specs.List.{list_any}
use Rattle.rx_poly.specs.Normal.{is_empty}
use Rattle.rx_rank.proofs.partition.have_row.Given as goal

abbrev pub invariant-loop-rows : goal.invariant-loop-rows
invariant-loop-rows l =
    list_any (λ rows. not (is_empty rows)) (drop l.rows-index l.domains) ≡
    list_any (λ rows. not (is_empty rows)) l.domains
