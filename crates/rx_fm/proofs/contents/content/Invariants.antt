use Rattle.std.proofs.Common.{drop}
use Rattle.rx_fm.proofs.Measuring.{Measuring}
use Rattle.rx_fm.proofs.contents.content.Given as goal

abbrev pub invariant-loop-term : goal.invariant-loop-term
invariant-loop-term l = Measuring l.content (drop l.term-index l.term-items) l.term-items
