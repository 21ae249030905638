use Rattle.std.proofs.Common.{◌≡◌}
use Rattle.rx_term.specs.Stacks.{depth_of}
use Rattle.rx_term.specs.Variables.{term_uses_below}
use Rattle.rx_term.proofs.term.Term.uses_below.Given as goal

abbrev pub invariant-loop-here : goal.invariant-loop-here
invariant-loop-here l = term_uses_below l.bound l.here ≡ term_uses_below l.bound l.self

abbrev pub decreases-loop-here : goal.decreases-loop-here
decreases-loop-here l = depth_of l.here
