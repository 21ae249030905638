use Rattle.std.proofs.Common.{◌-◌, length}
use Rattle.rx_logtext.proofs.Each.{EachSoFar}
use Rattle.rx_logtext.proofs.lines.read_each.Given as goal

abbrev pub invariant-loop-at : goal.invariant-loop-at
invariant-loop-at g l = EachSoFar g.T.Part.text g.T.Part.in_range l.fn.bytes l.fn.from l.at l.parts

abbrev pub decreases-loop-at : goal.decreases-loop-at
decreases-loop-at g l = length l.fn.bytes - l.at
