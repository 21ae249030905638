use Rattle.std.proofs.Common.{◌≡◌, ◌↔◌, length}
use Rattle.rx_term.proofs.rule_set.are_same_domains.Given as goal

abbrev pub invariant-loop-one : goal.invariant-loop-one
invariant-loop-one l = (l.rest ≡ l.others) ↔ (l.left ≡ l.right)

abbrev pub decreases-loop-one : goal.decreases-loop-one
decreases-loop-one l = length l.rest
