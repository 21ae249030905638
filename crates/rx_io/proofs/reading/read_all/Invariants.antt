-- The bytes so far are what was taken from the front of the open file.
use Rattle.std.proofs.Common.{◌≤◌, ◌≡◌, ◌-◌, vec_len}
use Rattle.std.specs.Io.KnownBytes.{Consumes}
use Rattle.rx_io.proofs.reading.read_all.Given as goal

abbrev pub invariant-loop-count : goal.invariant-loop-count
invariant-loop-count g l = record {
  reach : g.F.Files.reaches l.fn.files l.files;
  held : g.F.Files.held l.files ≡ g.F.Files.held l.fn.files;
  later : g.F.Files.faults l.fn.files ≤ g.F.Files.faults l.files;
  within : vec_len l.bytes ≤ l.most;
  taken : Consumes (g.F.Files.left l.initial.files) (g.F.Files.left l.files) l.bytes.items;
}

abbrev pub decreases-loop-count : goal.decreases-loop-count
decreases-loop-count g l = l.most - vec_len l.bytes
