use Rattle.std.proofs.Common.{◌≡◌, take}
use Rattle.rx_settle.proofs.tasked.copied_tasks.Given as goal

abbrev pub invariant-loop-task : goal.invariant-loop-task
invariant-loop-task l = l.made ≡ take l.task-index l.tasks
