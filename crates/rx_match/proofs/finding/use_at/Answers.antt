-- The part has the shape, and what is matched is used.
use Rattle.std.proofs.Common.{◌∙◌, sym}
use Rattle.rx_match.specs.Matching.{matching}
use Rattle.rx_match.proofs.UseLaws.{answer_at}
use Rattle.rx_match.proofs.finding.use_at.Goals as goal

pub returns-clause-answer : goal.returns-clause-answer
returns-clause-answer g c =
    answer_at c.args.goal.now c.args.hypothesis.now c.args.part.now
    (matching c.args.hypothesis.now c.args.part.now) c.in_ok-subst.subst c.use_with.result
    (sym c.has_left_shape.ensures ∙ c.if-not-has_left_shape.false) c.in_ok-subst.ensures.forms.1
    c.in_ok-subst.ensures.forms.0 c.use_with.ensures.answer
