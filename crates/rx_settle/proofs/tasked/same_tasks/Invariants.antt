-- So many of them are made.
use Rattle.std.proofs.Common.{◌≡◌, replicate}
use Rattle.rx_settle.proofs.tasked.same_tasks.Given as goal

abbrev pub invariant-loop-task : goal.invariant-loop-task
invariant-loop-task l = l.made ≡ replicate l._task l.task
