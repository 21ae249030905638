-- The frames so far, over the rest of the term, are the term; earlier numbers are kept.
use Rattle.rx_bank.specs.Numbers.{KeepsNumbers}
use Rattle.rx_bank.specs.Packing.{StandsAs, frames_at, frames_within}
use Rattle.rx_term.specs.Stacks.{depth_of}
use Rattle.rx_bank.proofs.packing.pack_term.Given as goal

abbrev pub invariant-loop-here : goal.invariant-loop-here
invariant-loop-here l = record {
  stands : StandsAs frames_within (λ ps fs. frames_at ps fs l.here) l.bank l.frames l.term;
  stay : KeepsNumbers l.fn.bank l.bank;
}

abbrev pub decreases-loop-here : goal.decreases-loop-here
decreases-loop-here l = depth_of l.here
