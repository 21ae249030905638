use Rattle.c_refute.proofs.Differences.{difference_returns, difference_meets}
use Rattle.c_refute.proofs.PointLists.{point_long}
use Rattle.c_refute.proofs.laws.differences_are_meant.Goals as goal

pub returns-clause-returns : goal.returns-clause-returns
returns-clause-returns c =
    λ program f g precondition rounds side arity arguments first second found.
    difference_returns program f g precondition rounds arguments first second found.different

pub returns-clause-meets : goal.returns-clause-meets
returns-clause-meets c = λ program f g precondition rounds side arity arguments first second found.
    difference_meets program f g precondition rounds arguments first second found.different

pub returns-clause-arguments : goal.returns-clause-arguments
returns-clause-arguments c =
    λ program f g precondition rounds side arity arguments first second found.
    point_long side arity found.before found.after arguments found.is_point
