-- What is written, and the lines that are left, are all lines.
use Rattle.std.proofs.Common.{◌≡◌, ◌++◌, drop}
use Rattle.rx_log.specs.Lines.{by_symbol}
use Rattle.rx_logwriting.specs.Frames.{frame_texts}
use Rattle.rx_log.specs.declared.line.Line.TheVariants as line
use Rattle.rx_logwriting.proofs.writing.push_covers.Given as goal

abbrev pub invariant-loop-symbol : goal.invariant-loop-symbol
invariant-loop-symbol l =
    l.out.items ++ frame_texts (by_symbol line.Cover l.symbol (drop l.symbol l.covers))
    ≡ l.initial.out.items ++ frame_texts (by_symbol line.Cover 0 l.covers)
