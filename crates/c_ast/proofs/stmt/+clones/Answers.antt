-- One copy more is the beginning of the list with one more element.
use Rattle.c_ast.proofs.Copied.{one_more}
use Rattle.c_ast.proofs.stmt.+clones.Goals as goal

pub copy_all-loop-statement-preserved : goal.copy_all-loop-statement-preserved
copy_all-loop-statement-preserved t c =
    one_more c.as_slice-statement-items.result.now c.loop-statement.copies c.in_ok-copies.copies
    c.loop-statement.statement-index c.statement-item.result c.try_clone.result
    c.loop-statement-test.true c.statement-item.is c.loop-statement.invariant
    c.try_clone.ensures c.in_ok-copies.ensures
