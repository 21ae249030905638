-- What is written, and the lines that are left, are all lines.
use Rattle.std.proofs.Common.{◌≡◌, ◌++◌, drop}
use Rattle.rx_log.specs.Lines.{plain}
use Rattle.rx_logwriting.specs.Frames.{frame_texts}
use Rattle.rx_log.specs.declared.line.Line.TheVariants as line
use Rattle.rx_logwriting.proofs.writing.push_keeps.Given as goal

abbrev pub invariant-loop-certs : goal.invariant-loop-certs
invariant-loop-certs l =
    l.out.items ++ frame_texts (plain line.Keep (drop l.certs-index l.keeps))
    ≡ l.initial.out.items ++ frame_texts (plain line.Keep l.keeps)
