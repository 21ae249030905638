-- The frames so far, over what is made of the part in hand, are all.
use Rattle.std.proofs.Common.{◌≡◌}
use Rattle.rx_term.specs.Stacks.{depth_of, plug_reversed}
use Rattle.rx_lemma.specs.Repeated.{replaced_in}
use Rattle.rx_lemma.proofs.replaced.replaced_in.Given as goal

abbrev pub invariant-loop-here : goal.invariant-loop-here
invariant-loop-here l =
    plug_reversed l.upper (replaced_in l.with l.here) ≡ replaced_in l.with l.term

abbrev pub decreases-loop-here : goal.decreases-loop-here
decreases-loop-here l = depth_of l.here
