-- The part in hand decides.
use Rattle.std.proofs.Common.{◌≡◌}
use Rattle.std.specs.List.{list_all}
use Rattle.rx_poly.specs.Normal.{is_poly}
use Rattle.rx_term.specs.Stacks.{depth_of}
use Rattle.rx_term.specs.Variables.{arguments_of}
use Rattle.rx_lemma.proofs.premises.see_term.Given as goal

abbrev pub invariant-loop-here : goal.invariant-loop-here
invariant-loop-here l =
    list_all is_poly (arguments_of l.here) ≡ list_all is_poly (arguments_of l.term)

abbrev pub decreases-loop-here : goal.decreases-loop-here
decreases-loop-here l = depth_of l.here
