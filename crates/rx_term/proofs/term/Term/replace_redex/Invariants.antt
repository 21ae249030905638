use Rattle.rx_term.specs.Stacks.{depth_of, replace_redex}
use Rattle.rx_term.proofs.RedexWalks.{Replacing}
use Rattle.rx_term.proofs.term.Term.replace_redex.Given as goal

abbrev pub invariant-loop-rest : goal.invariant-loop-rest
invariant-loop-rest l = Replacing l.upper l.rest l.inner (replace_redex l.fn.self l.fn.inner)

abbrev pub decreases-loop-rest : goal.decreases-loop-rest
decreases-loop-rest l = depth_of l.rest
