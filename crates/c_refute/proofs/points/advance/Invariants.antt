use Rattle.c_refute.proofs.Walking.{Carried}
use Rattle.c_refute.proofs.points.advance.Given as goal

abbrev pub invariant-loop-i : goal.invariant-loop-i
invariant-loop-i l = Carried l.fn.side l.fn.point l.point l.i
