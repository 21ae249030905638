use Rattle.std.proofs.Common.{◌≡◌}
use Rattle.rx_term.specs.Stacks.{depth_of}
use Rattle.rx_term_words.specs.Terms.{terms}
use Rattle.rx_logwriting.proofs.terms.term_has_text.Given as goal

abbrev pub invariant-loop-here : goal.invariant-loop-here
invariant-loop-here l = terms.in_range l.here ≡ terms.in_range l.term

abbrev pub decreases-loop-here : goal.decreases-loop-here
decreases-loop-here l = depth_of l.here
