-- Where the first side is refuted the second decides.
use Rattle.std.proofs.lemmas.Result.{err_from_is_err_and}
use Rattle.rx_solve.proofs.Phases.{division_beyond, division_step, same_dividend}
use Rattle.rx_solve.proofs.divisions.+dividing.Goals as goal

pub divide_both-returns-in_err-both-clause-answer : goal.divide_both-returns-in_err-both-clause-answer
divide_both-returns-in_err-both-clause-answer t c =
    let division = c.args.known.now in
    let p = err_from_is_err_and c.from_residual-in_err-both.result
    c.from_residual-in_err-both.ensures.1 in
    rw (p.1, p.2) (λ large.
    division_beyond c.args.num c.args.den.now c.args.rest.now c.args.rows.now.items
    (division.equation, division.rest, division.bound) c.divide_above.new.rows.items
    c.in_ok-pos.field-0 c.in-Some.pos c.divide_below-neg.result c.requires.divisor
    c.requires.known c.requires.within c.in_ok-pos.ensures.kept c.in-Some.is
    c.in_ok-pos.ensures.answer c.divide_below-neg.ensures.answer (c.in_err-both.ensures.large large))

pub divide_both-returns-clause-answer : goal.divide_both-returns-clause-answer
divide_both-returns-clause-answer t c =
    let division = c.args.known.now in
    division_step c.args.num c.args.den.now c.args.rest.now c.args.rows.now.items
    (division.equation, division.rest, division.bound) c.divide_above.new.rows.items
    c.in_ok-pos.field-0 c.in-Some.pos c.divide_below-neg.result c.requires.divisor
    c.requires.known c.requires.within c.in_ok-pos.ensures.kept c.in-Some.is
    c.in_ok-pos.ensures.answer c.divide_below-neg.ensures.answer c.requires.ratios
    c.in_ok-both.both c.division_cert.result c.in_ok-both.ensures.found c.in_ok-both.ensures.first
    c.division_cert.ensures

pub divide_by-returns-clause-answer : goal.divide_by-returns-clause-answer
divide_by-returns-clause-answer t c =
    same_dividend c.in_ok-num.num c.args.ratio.now.den c.args.rest.now c.args.rows.now.items
    c.args.ratio.now.num c.divide_both.result c.in_ok-num.ensures c.divide_both.ensures.answer
