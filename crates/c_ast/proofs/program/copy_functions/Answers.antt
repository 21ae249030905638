-- One copy more is the beginning of the list with one more function.
use Rattle.c_ast.proofs.Copied.{one_more}
use Rattle.c_ast.proofs.program.copy_functions.Goals as goal

pub loop-function-preserved : goal.loop-function-preserved
loop-function-preserved c =
    one_more c.as_slice-function-items.result.now c.loop-function.copies c.in_ok-copies.copies
    c.loop-function.function-index c.function-item.result c.try_clone.result
    c.loop-function-test.true c.function-item.is c.loop-function.invariant
    c.try_clone.ensures c.in_ok-copies.ensures
