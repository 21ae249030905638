-- What is left is in range exactly where all is.
use Rattle.std.proofs.Common.{◌≡◌, drop}
use Rattle.rx_logwriting.specs.Frames.{are_frames}
use Rattle.rx_log.specs.Lines.{by_symbol}
use Rattle.rx_log.specs.declared.line.Line.TheVariants as line
use Rattle.rx_logwriting.proofs.ranges.ranks_have_text.Given as goal

abbrev pub invariant-loop-symbol : goal.invariant-loop-symbol
invariant-loop-symbol l =
    are_frames (by_symbol line.Rank l.symbol (drop l.symbol l.ranks))
    ≡ are_frames (by_symbol line.Rank 0 l.ranks)
