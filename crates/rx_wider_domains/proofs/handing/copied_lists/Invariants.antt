-- The first of them.
use Rattle.std.proofs.Common.{◌≡◌, take}
use Rattle.rx_wider_domains.proofs.handing.copied_lists.Given as goal

abbrev pub invariant-loop-rows : goal.invariant-loop-rows
invariant-loop-rows l = l.made.items ≡ take l.rows-index l.lists
