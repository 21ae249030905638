use Rattle.std.proofs.Common.{arith}
use Rattle.c_meaning.specs.Counted.{counted, counted_expr}
use Rattle.c_meaning.proofs.Bounds.{left_below, counted_agree, expr_agrees}
use Rattle.c_meaning.proofs.counted_laws.what_is_left_was_there.Goals as goal

pub returns-clause-calls : goal.returns-clause-calls
returns-clause-calls c = λ program n f arguments x left is.
    left_below n (counted program n f arguments) x left
    ((counted_agree program n).each n (omega arith) f arguments) is

pub returns-clause-expressions : goal.returns-clause-expressions
returns-clause-expressions c = λ program e n s x left is.
    left_below n (counted_expr program e n s) x left
    (expr_agrees (counted program) (counted program) n (counted_agree program n) e n
    (omega arith) s) is
