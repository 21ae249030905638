use Rattle.std.proofs.Common.{◌≡◌, ◌++◌}
use Rattle.rx_term.specs.Stacks.{depth_of}
use Rattle.rx_term.specs.Variables.{arguments_of}
use Rattle.rx_term.proofs.term.Term.arguments.Given as goal

abbrev pub invariant-loop-here : goal.invariant-loop-here
invariant-loop-here l = l.made ++ arguments_of l.here ≡ arguments_of l.self

abbrev pub decreases-loop-here : goal.decreases-loop-here
decreases-loop-here l = depth_of l.here
