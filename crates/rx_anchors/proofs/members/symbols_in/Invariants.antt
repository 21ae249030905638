-- The symbols so far, and those that are left.
use Rattle.std.proofs.Common.{◌≡◌, ◌++◌, ◌-◌, length}
use Rattle.std.specs.List.{filter, range_with_len}
use Rattle.rx_anchors.specs.Members.{is_member, members}
use Rattle.rx_anchors.proofs.members.symbols_in.Given as goal

abbrev pub invariant-loop-at : goal.invariant-loop-at
invariant-loop-at l =
    l.symbols.items ++ filter (is_member l.names l.name)
    (range_with_len l.at (length l.names - l.at)) ≡ members l.names l.name
