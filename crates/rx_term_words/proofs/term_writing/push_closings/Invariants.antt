-- What is written, and what closes the frames that are left, is all that closes them.
use Rattle.std.proofs.Common.{◌≡◌, ◌++◌}
use Rattle.rx_term.specs.Stacks.{depth_of}
use Rattle.rx_term_words.specs.Written.{closing_text}
use Rattle.rx_term_words.proofs.term_writing.push_closings.Given as goal

abbrev pub invariant-loop-here : goal.invariant-loop-here
invariant-loop-here l =
    l.out.items ++ closing_text l.here ≡ l.initial.out.items ++ closing_text l.term

abbrev pub decreases-loop-here : goal.decreases-loop-here
decreases-loop-here l = depth_of l.here
