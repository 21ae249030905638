use Rattle.std.proofs.Common.{drop}
use Rattle.rx_term.proofs.Differing.{Differing}
use Rattle.rx_term.proofs.arguments.differences.Given as goal

abbrev pub invariant-loop-one : goal.invariant-loop-one
invariant-loop-one l = Differing l.made (drop l.one-index l.left) l.others l.left l.right
