-- What is written, and the text of the frames that are left, is the whole text of the frames.
use Rattle.std.proofs.Common.{◌≡◌, ◌++◌}
use Rattle.rx_term.specs.Stacks.{depth_of}
use Rattle.rx_term_words.specs.Written.{innermost_of, opening_text}
use Rattle.rx_term_words.proofs.term_writing.push_openings.Given as goal

abbrev pub invariant-loop-here : goal.invariant-loop-here
invariant-loop-here l =
    (l.out.items ++ opening_text l.here ≡ l.initial.out.items ++ opening_text l.term)
    × (innermost_of l.here ≡ innermost_of l.term)

abbrev pub decreases-loop-here : goal.decreases-loop-here
decreases-loop-here l = depth_of l.here
