-- Lawful parts of rows that hold have a sum of at least 0.
use Rattle.std.proofs.Common.{sym, ◌∙◌}
use Rattle.rx_row.proofs.PartLaws.{lawful_sum}
use Rattle.rx_row.proofs.parts.combine_rows.Goals as goal

pub returns-clause-holds : goal.returns-clause-holds
returns-clause-holds c = λ a h. rw (c.in_ok-sum_of_multiples.ensures.forms.0)
    (lawful_sum a c.args.rows.now c.args.parts.now
    (sym c.are_lawful_parts.ensures ∙ c.if-not-are_lawful_parts.false) h)
