-- The frames that were read are between the first place and this one.
use Rattle.std.proofs.Common.{◌-◌, length}
use Rattle.rx_term_words.proofs.FrameLaws.{FramesSoFar}
use Rattle.rx_term_words.proofs.terms.read_open.Given as goal

abbrev pub invariant-loop-frames : goal.invariant-loop-frames
invariant-loop-frames l = FramesSoFar l.bytes l.at l.frames l.place

abbrev pub decreases-loop-frames : goal.decreases-loop-frames
decreases-loop-frames l = length l.bytes - l.place
