use Rattle.std.proofs.Common.{◌≡◌, ◌∙◌, ap, sym, Ok, drop}
use Rattle.rx_inference.specs.States.{applied}
use Rattle.rx_steps.proofs.SettledLaws.{left_out}
use Rattle.rx_steps.proofs.applying.apply.Goals as goal

pub returns-then-is_settled-clause-answer : goal.returns-then-is_settled-clause-answer
returns-then-is_settled-clause-answer c =
    let state = c.args.state.now in
    let goals = c.drop_first.ensures.goals in
    let hypotheses = c.drop_first.ensures.hypotheses in
    let left : c.drop_first.new.self ≡
    record { goals = drop 1 state.goals; hypotheses = state.hypotheses } =
    λ i. record { goals = goals i; hypotheses = hypotheses i } in
    ap (applied c.args.rules.now state) (c.is_bare_equal.ensures c.if-is_bare_equal.true)
    ∙ left_out c.args.rules.now state (c.is_settled.ensures c.if-is_settled.true)
    ∙ ap Ok (sym left)
