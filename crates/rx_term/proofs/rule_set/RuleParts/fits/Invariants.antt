use Rattle.std.proofs.Common.{◌≡◌}
use Rattle.rx_term.specs.Fitting.{term_fits}
use Rattle.rx_term.specs.Stacks.{depth_of}
use Rattle.rx_term.proofs.rule_set.RuleParts.fits.Given as goal

abbrev pub invariant-loop-here : goal.invariant-loop-here
invariant-loop-here l = term_fits l.self l.here ≡ term_fits l.self l.term

abbrev pub decreases-loop-here : goal.decreases-loop-here
decreases-loop-here l = depth_of l.here
