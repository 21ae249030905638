use Rattle.std.proofs.Common.{◌≡◌, ◌+◌}
use Rattle.rx_term.specs.Stacks.{depth_of}
use Rattle.rx_term.proofs.term.Term.depth.Given as goal

abbrev pub invariant-loop-here : goal.invariant-loop-here
invariant-loop-here l = l.count + depth_of l.here ≡ depth_of l.self
