-- What is written, and the lines that are left, are all lines.
use Rattle.std.proofs.Common.{◌≡◌, ◌++◌, drop}
use Rattle.rx_log.specs.Lines.{by_symbol}
use Rattle.rx_logwriting.specs.Frames.{frame_texts}
use Rattle.rx_log.specs.declared.line.Line.TheVariants as line
use Rattle.rx_logwriting.proofs.writing.push_domains.Given as goal

abbrev pub invariant-loop-symbol : goal.invariant-loop-symbol
invariant-loop-symbol l =
    l.out.items ++ frame_texts (by_symbol line.Domain l.symbol (drop l.symbol l.domains))
    ≡ l.initial.out.items ++ frame_texts (by_symbol line.Domain 0 l.domains)
