-- An order that tests two leaves is the comparison of them.
use Rattle.c_code.proofs.WorkCode.{less-op, greater-op, at_least-op, at_most-op}
use Rattle.c_code.proofs.expressions.order_op.Goals as goal

pub returns-in-Lt : goal.returns-in-Lt
returns-in-Lt c =
    less-op c.less_op.result c.args.inner c.args.zero c.args.other c.in-Lt.is c.less_op.ensures

pub returns-in-Gt : goal.returns-in-Gt
returns-in-Gt c =
    greater-op c.less_op-in-Gt.result c.args.inner c.args.zero c.args.other c.in-Gt.is
    c.less_op-in-Gt.ensures

pub returns-in-Ge : goal.returns-in-Ge
returns-in-Ge c =
    at_least-op c.less_op-in-Ge.result c.args.inner c.args.zero c.args.other c.in-Ge.is
    c.less_op-in-Ge.ensures

pub returns-in-Le : goal.returns-in-Le
returns-in-Le c =
    at_most-op c.less_op-in-Le.result c.args.inner c.args.zero c.args.other c.in-Le.is
    c.less_op-in-Le.ensures
