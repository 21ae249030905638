use Rattle.std.proofs.Common.{◌≡◌, take}
use Rattle.rx_domain.proofs.setting.copied_lists.Given as goal

abbrev pub invariant-loop-rows : goal.invariant-loop-rows
invariant-loop-rows l = l.made ≡ take l.rows-index l.lists
