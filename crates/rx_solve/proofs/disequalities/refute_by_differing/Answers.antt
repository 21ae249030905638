-- The first disequalities are no more than 6.
use Rattle.std.proofs.Common.{◌∙◌}
use Rattle.rx_solve.proofs.Phases.{differing_answers}
use Rattle.rx_solve.proofs.disequalities.refute_by_differing.Goals as goal

pub returns-clause-answer : goal.returns-clause-answer
returns-clause-answer c =
    differing_answers c.args.rows.now.items c.as_slice.result.now c.as_slice-2.result.now
    c.differ_in_order.result (c.as_slice-2.ensures.value ∙ c.in_ok-places.ensures)
    c.as_slice.ensures.value c.differ_in_order.ensures.answer
