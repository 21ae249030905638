-- The row is longer by one, or there is no place for it.
use Rattle.std.proofs.Common.{◌<◌, ◌≤◌, arith, sym, [], ◌∷◌, ◌++◌, get_or, length}
use Rattle.rx_find_ranks.proofs.Grouping.{past_end, pushed_row}
use Rattle.rx_find_ranks.specs.Groups.{groups_in}
use Rattle.rx_find_ranks.proofs.groups.push_at.Goals as goal

pub returns-in_ok-push : goal.returns-in_ok-push
returns-in_ok-push c =
    let less = c.if-at-len.true in
    let count = c.len.ensures in
    let inner : c.args.at < length c.args.groups.now.items = omega (arith, less, count) in
    pushed_row c.args.groups.now.items c.args.entry c.args.at c.index_mut.result.now c.push.new.self
    inner c.index_mut.ensures.value c.in_ok-push.ensures.items

pub returns-else-at-len : goal.returns-else-at-len
returns-else-at-len c =
    let more = c.if-at-len.false in
    let count = c.len.ensures in
    let past : length c.args.groups.now.items ≤ c.args.at = omega (arith, more, count) in
    sym (past_end c.args.groups.now.items c.args.at
    (get_or (groups_in c.args.groups.now.items) c.args.at [] ++ c.args.entry ∷ []) past)
