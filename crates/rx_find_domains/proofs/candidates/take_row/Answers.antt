-- The row isn't over the arguments, or there are as many as may be, or it is taken up.
use Rattle.std.proofs.Common.{◌∙◌, sym}
use Rattle.rx_find_domains.proofs.CandidateLaws.{not_over}
use Rattle.rx_find_domains.proofs.candidates.take_row.Goals as goal

pub returns-then-not-uses_below : goal.returns-then-not-uses_below
returns-then-not-uses_below c =
    sym (not_over c.args.arity c.args.rows.now c.args.row.now
    (sym c.uses_below.ensures ∙ c.if-not-uses_below.true))
