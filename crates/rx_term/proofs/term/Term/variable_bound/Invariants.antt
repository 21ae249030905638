-- The greatest so far and of the part that is left is that of the whole.
use Rattle.std.proofs.Common.{◌≡◌, max}
use Rattle.rx_term.specs.Bounds.{term_bound}
use Rattle.rx_term.specs.Stacks.{depth_of}
use Rattle.rx_term.proofs.term.Term.variable_bound.Given as goal

abbrev pub invariant-loop-here : goal.invariant-loop-here
invariant-loop-here l = max l.bound (term_bound l.here) ≡ term_bound l.self

abbrev pub decreases-loop-here : goal.decreases-loop-here
decreases-loop-here l = depth_of l.here
