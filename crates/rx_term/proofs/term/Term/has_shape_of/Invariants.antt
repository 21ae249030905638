use Rattle.std.proofs.Common.{◌≡◌, ◌↔◌}
use Rattle.rx_term.specs.Shapes.{shape_of}
use Rattle.rx_term.specs.Stacks.{depth_of}
use Rattle.rx_term.proofs.term.Term.has_shape_of.Given as goal

abbrev pub invariant-loop-here : goal.invariant-loop-here
invariant-loop-here l = (shape_of l.here ≡ shape_of l.there) ↔ (shape_of l.self ≡ shape_of l.other)

abbrev pub decreases-loop-here : goal.decreases-loop-here
decreases-loop-here l = depth_of l.here
