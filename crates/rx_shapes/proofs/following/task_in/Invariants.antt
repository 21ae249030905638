-- Those so far, and then those of the sides that are left, are all.
use Rattle.std.proofs.Common.{◌≡◌, ◌++◌, drop}
use Rattle.rx_shapes.specs.Following.{task_in}
use Rattle.rx_shapes.proofs.following.task_in.Given as goal

abbrev pub invariant-loop-side : goal.invariant-loop-side
invariant-loop-side l =
    l.task ++ task_in (drop l.side-index l.plan) l.goal l.equation ≡ task_in l.plan l.goal l.equation
