-- What is kept is what the bytes that were taken from the open file give.
use Rattle.std.proofs.Common.{◌≤◌, ◌≡◌, ◌-◌}
use Rattle.rx_logstate.proofs.LookLemmas.{FileSoFar}
use Rattle.rx_logstate.proofs.reading.step_in_file.Given as goal

abbrev pub invariant-loop-count : goal.invariant-loop-count
invariant-loop-count g l = record {
  reach : g.F.Files.reaches l.fn.files l.files;
  held : g.F.Files.held l.files ≡ g.F.Files.held l.fn.files;
  later : g.F.Files.faults l.fn.files ≤ g.F.Files.faults l.files;
  so_far : FileSoFar (g.F.Files.left l.initial.files) (g.F.Files.left l.files) l.look l.rules
      l.fn.goal l.fn.number l.read l.most;
}

abbrev pub decreases-loop-count : goal.decreases-loop-count
decreases-loop-count g l = l.most - l.read
