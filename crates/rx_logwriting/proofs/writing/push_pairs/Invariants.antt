-- What is written, and the lines that are left, are all lines.
use Rattle.std.proofs.Common.{◌≡◌, ◌++◌, drop}
use Rattle.rx_log.specs.Lines.{plain}
use Rattle.rx_logwriting.specs.Frames.{frame_texts}
use Rattle.rx_log.specs.declared.line.Line.TheVariants as line
use Rattle.rx_logwriting.proofs.writing.push_pairs.Given as goal

abbrev pub invariant-loop-pair : goal.invariant-loop-pair
invariant-loop-pair l =
    l.out.items ++ frame_texts (plain line.Pair (drop l.pair-index l.pairs))
    ≡ l.initial.out.items ++ frame_texts (plain line.Pair l.pairs)
