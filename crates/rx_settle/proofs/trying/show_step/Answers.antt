-- A formed step is shown or not.
use Rattle.rx_settle.proofs.TryingLaws.{by_formed, by_large, by_refused, formed_at, step_follows}
use Rattle.rx_settle.proofs.trying.show_step.Goals as goal

pub returns-in-Formed-clause-outcome : goal.returns-in-Formed-clause-outcome
returns-in-Formed-clause-outcome g c =
    let of = formed_at c.args.rules.now c.args.state.now c.args.step.now c.in_ok-made.field-0 _ _
    c.first.ensures c.hypotheses.ensures c.in_ok-made.ensures in
    step_follows c.args.state.now c.in-Formed.made c.args.rules.now c.args.step.now
    c.show_formed.result
    (by_formed c.args.rules.now c.args.state.now c.args.step.now c.in_ok-made.field-0 of
    c.in-Formed.made c.in-Formed.is) c.show_formed.ensures.outcome

pub returns-in-Refused-clause-outcome : goal.returns-in-Refused-clause-outcome
returns-in-Refused-clause-outcome g c =
    by_refused c.args.rules.now c.args.state.now c.args.step.now c.in_ok-made.field-0
    (formed_at c.args.rules.now c.args.state.now c.args.step.now c.in_ok-made.field-0 _ _
    c.first.ensures c.hypotheses.ensures c.in_ok-made.ensures) c.in-Refused.is

pub returns-in-TooLarge-clause-outcome : goal.returns-in-TooLarge-clause-outcome
returns-in-TooLarge-clause-outcome g c =
    by_large c.args.rules.now c.args.state.now c.args.step.now c.in_ok-made.field-0
    (formed_at c.args.rules.now c.args.state.now c.args.step.now c.in_ok-made.field-0 _ _
    c.first.ensures c.hypotheses.ensures c.in_ok-made.ensures) c.in-TooLarge.is
