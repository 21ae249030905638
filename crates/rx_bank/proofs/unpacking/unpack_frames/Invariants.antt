-- The frames that are left, over the term so far, are the whole.
use Rattle.std.proofs.Common.{◌≡◌, true, length}
use Rattle.std.specs.List.{list_all}
use Rattle.rx_bank.specs.Packing.{call_within, frames_at}
use Rattle.rx_bank.proofs.unpacking.unpack_frames.Given as goal

abbrev pub invariant-loop-frame : goal.invariant-loop-frame
invariant-loop-frame l = record {
  within : list_all (call_within (length l.bank)) l.upper ≡ true;
  over : frames_at l.bank l.upper l.whole ≡ frames_at l.bank l.frames l.fn.inner;
}

abbrev pub decreases-loop-frame : goal.decreases-loop-frame
decreases-loop-frame l = length l.upper
