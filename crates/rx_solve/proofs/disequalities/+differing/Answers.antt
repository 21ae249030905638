-- Where the first side is refuted the second decides.
use Rattle.std.proofs.lemmas.Result.{err_from_is_err_and}
use Rattle.rx_solve.proofs.Phases.{difference_beyond, difference_step}
use Rattle.rx_solve.proofs.disequalities.+differing.Goals as goal

pub differ_both-returns-in_err-both-clause-answer : goal.differ_both-returns-in_err-both-clause-answer
differ_both-returns-in_err-both-clause-answer t c =
    let p = err_from_is_err_and c.from_residual-in_err-both.result
    c.from_residual-in_err-both.ensures.1 in
    rw (p.1, p.2) (λ large.
    difference_beyond c.args.at c.args.rest.now c.args.rows.now.items c.args.poly.now
    c.differ_above.new.rows.items c.in_ok-pos.field-0 c.in-Some.pos c.differ_below-neg.result
    c.requires c.in_ok-pos.ensures.kept c.in-Some.is
    c.in_ok-pos.ensures.answer c.differ_below-neg.ensures.answer (c.in_err-both.ensures.large large))

pub differ_both-returns-clause-answer : goal.differ_both-returns-clause-answer
differ_both-returns-clause-answer t c =
    difference_step c.args.at c.args.rest.now c.args.rows.now.items c.args.poly.now
    c.differ_above.new.rows.items c.in_ok-pos.field-0 c.in-Some.pos c.differ_below-neg.result
    c.requires c.in_ok-pos.ensures.kept c.in-Some.is
    c.in_ok-pos.ensures.answer c.differ_below-neg.ensures.answer
    c.in_ok-both.both c.difference_cert.result c.in_ok-both.ensures.found c.in_ok-both.ensures.first
    c.difference_cert.ensures
