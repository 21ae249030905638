-- The law of certificates.
use Rattle.std.proofs.Common.{◌∙◌}
use Rattle.rx_cert.proofs.Law.{answer_refuted}
use Rattle.rx_cert.proofs.refutation.shows.Goals as goal

pub returns-clause-refuted : goal.returns-clause-refuted
returns-clause-refuted c =
    answer_refuted c.examine.result c.args.rows.now c.in_ok-lent.lent.items c.args.cert.now
    (c.in_ok-lent.ensures ∙ c.rows.ensures) c.examine.ensures.answer
