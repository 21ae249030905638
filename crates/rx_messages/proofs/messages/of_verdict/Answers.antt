-- Of all other verdicts the message is told by the place, or is a remark.
use Rattle.std.specs.Prelude.{IfOk}
use Rattle.std.proofs.Common.{subst, sym}
use Rattle.rx_messages.specs.Asked.{asked_view}
use Rattle.rx_messages.specs.Logs.{facts_view}
use Rattle.rx_messages.specs.Steps.{MakesSome}
use Rattle.rx_messages.proofs.MessageLemmas.{of_others}
use Rattle.rx_messages.proofs.messages.of_verdict.Goals as goal

pub returns-in_default : goal.returns-in_default
returns-in_default c =
    subst (λ wanted. IfOk c.on_place.result (MakesSome wanted))
    (sym (of_others (asked_view c.args.asked.now) c.args.given.now c.args.verdict.now
    (facts_view c.args.facts.now) c.in_default.not-Usage)) c.on_place.ensures
