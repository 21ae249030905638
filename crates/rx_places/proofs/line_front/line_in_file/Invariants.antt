-- What is kept is what the bytes that were taken from the open file give.
use Rattle.std.proofs.Common.{◌≤◌, ◌≡◌, ◌-◌}
use Rattle.rx_places.proofs.FrontLemmas.{FrontSoFar}
use Rattle.rx_places.proofs.line_front.line_in_file.Given as goal

abbrev pub invariant-loop-count : goal.invariant-loop-count
invariant-loop-count g l = record {
  reach : g.F.Files.reaches l.fn.files l.files;
  held : g.F.Files.held l.files ≡ g.F.Files.held l.fn.files;
  later : g.F.Files.faults l.fn.files ≤ g.F.Files.faults l.files;
  so_far : FrontSoFar (g.F.Files.left l.initial.files) (g.F.Files.left l.files) l.initial.front l.front l.read l.left_over;
}

abbrev pub decreases-loop-count : goal.decreases-loop-count
decreases-loop-count g l = l.left_over - l.read
