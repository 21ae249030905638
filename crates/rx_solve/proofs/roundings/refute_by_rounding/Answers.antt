-- The roundings of the rows are no more than 64.
use Rattle.std.proofs.Common.{◌≡◌, ◌∙◌, ap, true, rules}
use Rattle.rx_solve.specs.Roundings.{roundings, roundings_within}
use Rattle.rx_solve.proofs.Phases.{rounding_answers}
use Rattle.rx_solve.proofs.roundings.refute_by_rounding.Goals as goal

pub returns-clause-answer : goal.returns-clause-answer
returns-clause-answer c =
    let rows = c.args.rows.now.items in
    let lent : c.as_slice.result.now ≡ rows = search rules in
    let is : c.in_ok-roundings.roundings.items ≡ roundings rows = c.in_ok-roundings.ensures.0 ∙
    ap roundings lent in
    let keeps : roundings_within rows ≡ true = rw (← lent) c.in_ok-roundings.ensures.1 in
    let list : c.as_slice-2.result.now ≡ c.in_ok-roundings.roundings.items = search rules in
    rounding_answers rows rows c.as_slice-2.result.now c.round_in_order.result (list ∙ is) keeps
    (λ i. rows) c.round_in_order.ensures.answer
