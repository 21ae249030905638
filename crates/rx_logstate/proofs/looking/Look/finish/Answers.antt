-- The text is a log, or has a first bad line.
use Rattle.std.proofs.Common.{Err, Option, inl, inr, subst}
use Rattle.rx_logtext.specs.Readers.{Finishes}
use Rattle.rx_logtext.specs.declared.log_end.LogEnd.{LogEnd}
use Rattle.rx_logstate.specs.Following.{Concludes}
use Rattle.rx_logstate.specs.declared.at_step.AtStep.{AtStep}
use Rattle.rx_logstate.proofs.looking.Look.finish.Goals as goal

pub returns-in-Some : goal.returns-in-Some
returns-in-Some c = λ parts target number bytes h. (
  h.log,
  (
    c.in-Ok.ensures.finishes h.log bytes h.reader,
    subst (λ (found : Option AtStep). Concludes parts target h.log number found) c.in-Some.is
        (c.in_ok-found-in-Ok.ensures parts target number h.log h.follows),
  ),
)

pub returns-in-Ok : goal.returns-in-Ok
returns-in-Ok c = λ parts target number bytes h. inr (
  h.log,
  (
    c.in-Ok.ensures.finishes h.log bytes h.reader,
    subst (λ (found : Option AtStep). Concludes parts target h.log number found) c.in-None.is
        (c.in_ok-found-in-Ok.ensures parts target number h.log h.follows),
  ),
)

pub returns-in-Err-BadLine : goal.returns-in-Err-BadLine
returns-in-Err-BadLine c = λ parts target number bytes h. inl (
  c.in-Err-BadLine.field-0-0,
  subst (λ (end : LogEnd). Finishes h.log bytes (Err end)) c.in-Err-BadLine.field-0-is
      (c.in-Err-BadLine.ensures.finishes h.log bytes h.reader),
)
