-- The frames that are left, over what is made so far, are all.
use Rattle.std.proofs.Common.{◌≡◌}
use Rattle.rx_term.specs.Stacks.{depth_of, plug_reversed}
use Rattle.rx_lemma.proofs.replaced.onto.Given as goal

abbrev pub invariant-loop-upper : goal.invariant-loop-upper
invariant-loop-upper l = plug_reversed l.upper l.whole ≡ plug_reversed l.fn.frames l.fn.inner

abbrev pub decreases-loop-upper : goal.decreases-loop-upper
decreases-loop-upper l = depth_of l.upper
