-- What comes of the use.
use Rattle.std.proofs.Common.{◌∙◌, ap, Ok}
use Rattle.rx_settle.proofs.CandidateLaws.{for_end, for_no_use, for_use}
use Rattle.rx_settle.proofs.uses.candidate_of.Goals as goal

pub returns-in-Ok-Some : goal.returns-in-Ok-Some
returns-in-Ok-Some c =
    λ tried is. for_use c.args.place tried c.args.found is _
    (c.in-Ok-Some.is ∙ ap Ok c.in-Ok-Some.field-0-is)

pub returns-in-Ok-None : goal.returns-in-Ok-None
returns-in-Ok-None c =
    λ tried is. for_no_use c.args.place tried c.args.found is
    (c.in-Ok-None.is ∙ ap Ok c.in-Ok-None.field-0-is)

pub returns : goal.returns
returns c =
    λ tried is. for_end c.args.place tried c.args.found is _ c.candidate_after.result c.in-Err.is
    c.candidate_after.ensures.large c.candidate_after.ensures.candidate
