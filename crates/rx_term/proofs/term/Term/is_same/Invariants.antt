use Rattle.std.proofs.Common.{◌≡◌, ◌↔◌}
use Rattle.rx_term.specs.Stacks.{depth_of}
use Rattle.rx_term.proofs.term.Term.is_same.Given as goal

abbrev pub invariant-loop-here : goal.invariant-loop-here
invariant-loop-here l = (l.here ≡ l.there) ↔ (l.self ≡ l.other)

abbrev pub decreases-loop-here : goal.decreases-loop-here
decreases-loop-here l = depth_of l.here
