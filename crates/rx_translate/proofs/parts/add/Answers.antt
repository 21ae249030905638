use Rattle.std.proofs.Common.{arith, ◌≤◌, length}
use Rattle.rx_translate.proofs.Sorted.{add_at-set, add_at_past}
use Rattle.rx_translate.proofs.parts.add.Goals as goal

pub returns-in_ok-append : goal.returns-in_ok-append
returns-in_ok-append c =
    add_at-set c.args.lists.now.items c.args.symbol c.index_mut.result.now c.args.rules
    c.append.new.self (omega arith) c.index_mut.ensures.value c.in_ok-append.ensures.ok

pub returns-else-symbol-len : goal.returns-else-symbol-len
returns-else-symbol-len c =
    let past : length c.args.lists.now.items ≤ c.args.symbol = omega arith in
    add_at_past c.args.lists.now.items c.args.symbol c.args.rules past
