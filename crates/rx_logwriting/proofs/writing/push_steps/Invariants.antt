-- What is written, and the lines that are left, are all lines.
use Rattle.std.proofs.Common.{◌≡◌, ◌++◌, drop}
use Rattle.rx_log.specs.Lines.{plain}
use Rattle.rx_logtext.specs.Logs.{ended, line_texts}
use Rattle.rx_log.specs.declared.line.Line.TheVariants as line
use Rattle.rx_logwriting.proofs.writing.push_steps.Given as goal

abbrev pub invariant-loop-step : goal.invariant-loop-step
invariant-loop-step l =
    l.out.items ++ ended (line_texts l.version (plain line.Step (drop l.step-index l.steps)))
    ≡ l.initial.out.items ++ ended (line_texts l.version (plain line.Step l.steps))
