-- Fewer frames are left.
use Rattle.rx_term.specs.Stacks.{depth_of}
use Rattle.rx_memo.proofs.digest.after_term.Given as goal

abbrev pub decreases-loop-here : goal.decreases-loop-here
decreases-loop-here l = depth_of l.here
