-- The log is that of the text up to what is left.
use Rattle.std.proofs.Common.{length}
use Rattle.rx_logtext.proofs.Texts.{ReadSoFar}
use Rattle.rx_logtext.proofs.read.read_log.Given as goal

abbrev pub invariant-loop-left : goal.invariant-loop-left
invariant-loop-left l = ReadSoFar l.fn.text l.left l.reader l.log

abbrev pub decreases-loop-left : goal.decreases-loop-left
decreases-loop-left l = length l.left
