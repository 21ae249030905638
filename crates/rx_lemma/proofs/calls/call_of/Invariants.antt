-- The part in hand ends in the same call.
use Rattle.std.proofs.Common.{◌≡◌}
use Rattle.rx_term.specs.Stacks.{depth_of}
use Rattle.rx_lemma.specs.Calls.{call_of}
use Rattle.rx_lemma.proofs.calls.call_of.Given as goal

abbrev pub invariant-loop-here : goal.invariant-loop-here
invariant-loop-here l = call_of l.here ≡ call_of l.term

abbrev pub decreases-loop-here : goal.decreases-loop-here
decreases-loop-here l = depth_of l.here
