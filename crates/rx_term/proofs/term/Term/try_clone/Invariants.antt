use Rattle.std.proofs.Common.{◌≡◌}
use Rattle.rx_term.specs.Stacks.{depth_of, plug_reversed}
use Rattle.rx_term.proofs.term.Term.try_clone.Given as goal

abbrev pub invariant-loop-here : goal.invariant-loop-here
invariant-loop-here l = plug_reversed l.upper l.here ≡ l.self

abbrev pub decreases-loop-here : goal.decreases-loop-here
decreases-loop-here l = depth_of l.here
