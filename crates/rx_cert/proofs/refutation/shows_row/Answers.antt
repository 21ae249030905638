-- The law of certificates, for the negation of the row.
use Rattle.std.proofs.Common.{◌∙◌}
use Rattle.rx_cert.proofs.Law.{answer_shown}
use Rattle.rx_cert.proofs.refutation.shows_row.Goals as goal

pub returns-clause-holds : goal.returns-clause-holds
returns-clause-holds c =
    answer_shown c.examine_negation.result c.args.rows.now c.in_ok-lent.lent.items c.args.row.now
    c.args.cert.now (c.in_ok-lent.ensures ∙ c.rows.ensures) c.examine_negation.ensures.answer
