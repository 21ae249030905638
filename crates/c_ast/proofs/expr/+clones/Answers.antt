-- One copy more is the beginning of the list with one more element.
use Rattle.c_ast.proofs.Copied.{one_more}
use Rattle.c_ast.proofs.expr.+clones.Goals as goal

pub copy_all-loop-expression-preserved : goal.copy_all-loop-expression-preserved
copy_all-loop-expression-preserved t c =
    one_more c.as_slice-expression-items.result.now c.loop-expression.copies c.in_ok-copies.copies
    c.loop-expression.expression-index c.expression-item.result c.try_clone.result
    c.loop-expression-test.true c.expression-item.is c.loop-expression.invariant
    c.try_clone.ensures c.in_ok-copies.ensures
