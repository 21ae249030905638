use Rattle.std.proofs.Common.{◌+◌, ◌-◌, ◌*◌, length}
use Rattle.c_syntax.specs.StmtReaders.{Collected}
use Rattle.c_syntax.specs.Statements.{BlockItems}
use Rattle.c_syntax.proofs.statement.+statements.Given as goal

abbrev pub decreases-block : goal.decreases-block
decreases-block l = 4 * (length l.tokens.now - l.at)

abbrev pub decreases-branch : goal.decreases-branch
decreases-branch l = 4 * (length l.tokens.now - l.at)

abbrev pub decreases-while_loop : goal.decreases-while_loop
decreases-while_loop l = 4 * (length l.tokens.now - l.at)

abbrev pub decreases-do_loop : goal.decreases-do_loop
decreases-do_loop l = 4 * (length l.tokens.now - l.at)

abbrev pub decreases-for_loop : goal.decreases-for_loop
decreases-for_loop l = 4 * (length l.tokens.now - l.at)

abbrev pub decreases-statement : goal.decreases-statement
decreases-statement l = 4 * (length l.tokens.now - l.at) + 1

abbrev pub decreases-boxed_statement : goal.decreases-boxed_statement
decreases-boxed_statement l = 4 * (length l.tokens.now - l.at) + 2

abbrev pub decreases-block_item : goal.decreases-block_item
decreases-block_item l = 4 * (length l.tokens.now - l.at) + 2

abbrev pub decreases-block_items : goal.decreases-block_items
decreases-block_items l = 4 * (length l.tokens.now - l.at) + 3

abbrev pub invariant-block_items-items : goal.invariant-block_items-items
invariant-block_items-items l =
    Collected l.room (BlockItems l.tokens l.at) (BlockItems l.tokens) (length l.tokens) l.at l.found
    l.end

abbrev pub decreases-block_items-items : goal.decreases-block_items-items
decreases-block_items-items l = length l.tokens - l.end
