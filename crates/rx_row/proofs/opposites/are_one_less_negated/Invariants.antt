use Rattle.std.proofs.Common.{drop}
use Rattle.rx_row.proofs.TurnedTerms.{Comparing}
use Rattle.rx_row.proofs.opposites.are_one_less_negated.Given as goal

abbrev pub invariant-loop-term : goal.invariant-loop-term
invariant-loop-term l = Comparing l.rest (drop l.term-index l.right) l.left l.right
