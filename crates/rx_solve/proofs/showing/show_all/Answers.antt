-- What is found of all rows is what is said of them.
use Rattle.rx_solve.proofs.showing.show_all.Goals as goal

pub returns-clause-answer : goal.returns-clause-answer
returns-clause-answer g c =
    c.what_is_shown.ensures c.args.given.now c.args.rows.now c.show_in_order.ensures.answer
