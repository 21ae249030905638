-- That many empty groups so far.
use Rattle.std.proofs.Common.{◌≡◌, [], map}
use Rattle.rx_anchors.specs.Members.{symbols_of}
use Rattle.rx_find_ranks.specs.Groups.{entries_in, groups_in}
use Rattle.rx_find_ranks.proofs.groups.empty_groups.Given as goal

abbrev pub invariant-loop-group : goal.invariant-loop-group
invariant-loop-group l =
    groups_in l.groups.items ≡ map (entries_in l.names []) (symbols_of l._group)
