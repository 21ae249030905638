-- The side has a redex of the rule's shape, or the step isn't formed.
use Rattle.std.proofs.Common.{◌∙◌, ap, sym}
use Rattle.std.specs.Option.{option_copied}
use Rattle.rx_term.specs.Meaning.{redex_of}
use Rattle.rx_moves.proofs.RuleStepLaws.{no_redex_there, other_shape_there, shape_follows}
use Rattle.rx_moves.proofs.rule_steps.show_on.Goals as goal

pub returns-in_default-clause-outcome : goal.returns-in_default-clause-outcome
returns-in_default-clause-outcome g c state first =
    no_redex_there state c.args.side c.args.rule.now c.args.goal.now first
    (sym (ap redex_of c.side_of.ensures) ∙ sym c.redex.ensures.redex ∙
    ap option_copied c.in_default.is)

pub returns-then-not-have_one_shape-clause-outcome : goal.returns-then-not-have_one_shape-clause-outcome
returns-then-not-have_one_shape-clause-outcome g c state first =
    other_shape_there state c.args.side c.args.rule.now c.args.goal.now first c.in-Some.redex.now
    (sym (ap redex_of c.side_of.ensures) ∙ sym c.in-Some.ensures.redex)
    (sym c.have_one_shape.ensures ∙ c.if-not-have_one_shape.true)

pub returns-clause-outcome : goal.returns-clause-outcome
returns-clause-outcome g c =
    shape_follows c.args.goal.now c.args.side c.args.rule.now c.in-Some.redex.now
    (sym (ap redex_of c.side_of.ensures) ∙ sym c.in-Some.ensures.redex)
    c.show_rule.result
    (sym c.have_one_shape.ensures ∙ c.if-not-have_one_shape.false)
    c.show_rule.ensures.outcome
