use Rattle.c_ast.proofs.Returned.{kept, left_out}
use Rattle.c_ast.proofs.forms.straight.Goals as goal

pub returns-then-is_straight : goal.returns-then-is_straight
returns-then-is_straight c =
    kept c.args.function.now c.as_slice.result.now c.len.result c.in-Some.e.now c.as_slice.ensures
    c.len.ensures c.in-Some.ensures c.if-is_straight.ensures

pub returns-else-is_straight : goal.returns-else-is_straight
returns-else-is_straight c =
    left_out c.args.function.now c.as_slice.result.now c.len.result c.in-Some.e.now
    c.as_slice.ensures c.len.ensures c.in-Some.ensures c.if-is_straight.ensures
