-- What was written so far is a front of the bytes, and the rest is what is left of them.
use Rattle.std.proofs.Common.{◌≤◌, ◌≡◌, ℕ, length, take, drop}
use Rattle.std.specs.Io.KnownBytes.{Appends}
use Rattle.rx_io.specs.Puts.{Sends}
use Rattle.rx_io.proofs.putting.put_all.Given as goal

abbrev pub invariant-loop-rest : goal.invariant-loop-rest
invariant-loop-rest g l = record {
  reach : g.O.Sink.reaches l.fn.out l.out;
  later : g.O.Sink.faults l.fn.out ≤ g.O.Sink.faults l.out;
  sent : (count : ℕ) × (count ≤ length l.bytes) × (l.rest ≡ drop count l.bytes) ×
      Appends (g.O.Sink.contents l.fn.out) (g.O.Sink.contents l.out) (take count l.bytes);
  run : Sends g.O.Sink.puts l.fn.out l.bytes l.out l.rest;
}

abbrev pub decreases-loop-rest : goal.decreases-loop-rest
decreases-loop-rest g l = length l.rest
