use Rattle.rx_term.specs.Stacks.{depth_of}
use Rattle.rx_term.proofs.Collecting.{Collecting}
use Rattle.rx_term.proofs.rule_set.RuleSet.inside_rows.Given as goal

abbrev pub invariant-loop-here : goal.invariant-loop-here
invariant-loop-here l = Collecting l.self l.made l.here l.term

abbrev pub decreases-loop-here : goal.decreases-loop-here
decreases-loop-here l = depth_of l.here
