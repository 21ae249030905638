-- Both walks are at one depth; where the rest is the same, what begins at the start is common; and
-- no part of both is larger.
use Rattle.rx_pairs.proofs.CommonLaws.{Walk}
use Rattle.rx_term.specs.Stacks.{depth_of}
use Rattle.rx_pairs.proofs.common.common_at_depth.Given as goal

abbrev pub invariant-loop-here : goal.invariant-loop-here
invariant-loop-here l = Walk l.left l.right l.here l.there l.start

abbrev pub decreases-loop-here : goal.decreases-loop-here
decreases-loop-here l = depth_of l.here
