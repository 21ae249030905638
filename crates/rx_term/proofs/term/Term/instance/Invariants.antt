use Rattle.rx_term.specs.Replacements.{replacements}
use Rattle.rx_term.specs.Stacks.{depth_of}
use Rattle.rx_term.proofs.Substituting.{Substituting}
use Rattle.rx_term.proofs.term.Term.instance.Given as goal

abbrev pub invariant-loop-here : goal.invariant-loop-here
invariant-loop-here l = Substituting (replacements l.with) l.upper l.here l.self

abbrev pub decreases-loop-here : goal.decreases-loop-here
decreases-loop-here l = depth_of l.here
