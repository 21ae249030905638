-- What is left of the rows decides.
use Rattle.std.proofs.Common.{◌≡◌, drop}
use Rattle.std.specs.List.{flat_map}
use Rattle.rx_wider_domains.specs.Groups.{taken}
use Rattle.rx_wider_domains.specs.Signs.{signs}
use Rattle.rx_wider_domains.proofs.signs.take_all_signs.Given as goal

abbrev pub invariant-loop-row : goal.invariant-loop-row
invariant-loop-row l =
    taken l.rows (flat_map signs (drop l.row-index l.more))
    ≡ taken l.fn.rows (flat_map signs l.more)
