use Rattle.std.proofs.Common.{◌≡◌}
use Rattle.rx_term.specs.Stacks.{depth_of, ends_in_call}
use Rattle.rx_term.proofs.term.Term.ends_in_call.Given as goal

abbrev pub invariant-loop-here : goal.invariant-loop-here
invariant-loop-here l = ends_in_call l.here ≡ ends_in_call l.self

abbrev pub decreases-loop-here : goal.decreases-loop-here
decreases-loop-here l = depth_of l.here
