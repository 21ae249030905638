-- Terms that end in calls have as many parts as frames, and the call.
use Rattle.std.proofs.Common.{◌∙◌, sym}
use Rattle.rx_moves.proofs.SuffixLaws.{left_counted, right_counted}
use Rattle.rx_moves.proofs.finding.find_suffix.Goals as goal

pub returns-then-ends_in_call-2-clause-left : goal.returns-then-ends_in_call-2-clause-left
returns-then-ends_in_call-2-clause-left g c =
    left_counted c.args.left.now c.suffix_of.result
    (sym c.ends_in_call.ensures ∙ c.if-ends_in_call.true) c.suffix_of.ensures.left

pub returns-then-ends_in_call-2-clause-right : goal.returns-then-ends_in_call-2-clause-right
returns-then-ends_in_call-2-clause-right g c =
    right_counted c.args.right.now c.suffix_of.result
    (sym c.ends_in_call-then-ends_in_call.ensures ∙ c.if-ends_in_call-2.true)
    c.suffix_of.ensures.right
