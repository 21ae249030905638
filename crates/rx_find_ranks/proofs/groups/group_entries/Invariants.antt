-- The groups of the entries so far.
use Rattle.std.proofs.Common.{◌≡◌}
use Rattle.rx_find_ranks.specs.Groups.{by_component, groups_in}
use Rattle.rx_find_ranks.proofs.groups.group_entries.Given as goal

abbrev pub invariant-loop-entry : goal.invariant-loop-entry
invariant-loop-entry l = groups_in l.groups.items ≡ by_component l.names l.yielded
