-- The entries of the groups so far.
use Rattle.std.proofs.Common.{◌≡◌}
use Rattle.rx_find_ranks.specs.Groups.{groups_in, ungrouped}
use Rattle.rx_find_ranks.proofs.groups.all_entries.Given as goal

abbrev pub invariant-loop-group : goal.invariant-loop-group
invariant-loop-group l = l.entries.items ≡ ungrouped (groups_in l.yielded)
