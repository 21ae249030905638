-- The lines taken so far lead to the place, and this was gathered from them.
use Rattle.std.proofs.Common.{length}
use Rattle.rx_rulefile.proofs.TextReading.{ReadSoFar}
use Rattle.rx_rulefile.proofs.reading.read_parts.Given as goal

abbrev pub invariant-loop-bytes : goal.invariant-loop-bytes
invariant-loop-bytes l = ReadSoFar l.fn.text l.left l.taken l.place l.gathered

abbrev pub decreases-loop-bytes : goal.decreases-loop-bytes
decreases-loop-bytes l = length l.left
