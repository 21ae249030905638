use Rattle.rx_term.specs.Stacks.{depth_of}
use Rattle.rx_term.proofs.RedexWalks.{Finding}
use Rattle.rx_term.proofs.term.Term.redex.Given as goal

abbrev pub invariant-loop-here : goal.invariant-loop-here
invariant-loop-here l = Finding l.here l.self

abbrev pub decreases-loop-here : goal.decreases-loop-here
decreases-loop-here l = depth_of l.here
