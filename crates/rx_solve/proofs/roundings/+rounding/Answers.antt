-- What is found of the rows with the rounded one is found of the rows.
use Rattle.rx_solve.proofs.Phases.{rounding_step}
use Rattle.rx_solve.proofs.roundings.+rounding.Goals as goal

pub round_by-returns-clause-answer : goal.round_by-returns-clause-answer
round_by-returns-clause-answer t c =
    rounding_step c.args.rounding.now c.args.rest.now c.args.rows.now.items c.in-Some.row
    c.as_slice.result.now c.in_ok-row.field-0 c.in_ok-found.found c.in_ok-cut_found.field-0
    c.as_slice.ensures.value c.in_ok-row.ensures c.in-Some.is c.in_ok-found.ensures.answer
    c.in_ok-cut_found.ensures
