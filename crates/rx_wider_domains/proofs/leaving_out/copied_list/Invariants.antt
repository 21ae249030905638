-- The first of them.
use Rattle.std.proofs.Common.{◌≡◌, take}
use Rattle.rx_wider_domains.proofs.leaving_out.copied_list.Given as goal

abbrev pub invariant-loop-row : goal.invariant-loop-row
invariant-loop-row l = l.made ≡ take l.row-index l.rows
