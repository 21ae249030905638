-- What is left comes to what the run comes to, at a position that is there, and each step leaves
-- less to do.
use Rattle.std.proofs.Common.{◌≡◌, ◌<◌, length}
use Rattle.c_machine.specs.Machines.{machine_run}
use Rattle.c_machine.proofs.RunningCode.{left_to_do}
use Rattle.c_machine.proofs.machine.Machine.run.Given as goal

abbrev pub invariant-steps : goal.invariant-steps
invariant-steps l = record {
  same : machine_run l.code.program.now l.code.ops.items l.initial.self.callers.items l.initial.at
      l.initial.self.store l.initial.left
      ≡ machine_run l.code.program.now l.code.ops.items l.self.callers.items l.at l.self.store
      l.left;
  there : l.at < length l.code.ops.items;
}

abbrev pub decreases-steps : goal.decreases-steps
decreases-steps l = left_to_do l.left (length l.self.callers.items) (length l.code.ops.items) l.at
