-- The first ratios are no more than 3.
use Rattle.std.proofs.Common.{◌∙◌}
use Rattle.rx_solve.proofs.Phases.{dividing_answers}
use Rattle.rx_solve.proofs.divisions.refute_by_dividing.Goals as goal

pub returns-clause-answer : goal.returns-clause-answer
returns-clause-answer c =
    dividing_answers c.args.rows.now.items c.as_slice.result.now c.as_slice-2.result.now
    c.divide_in_order.result (c.as_slice-2.ensures.value ∙ c.in_ok-ratios.ensures.first)
    c.as_slice.ensures.value c.divide_in_order.ensures.answer
