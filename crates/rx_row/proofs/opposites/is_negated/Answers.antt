-- One monomial with opposite coefficients is the term with its sign reversed.
use Rattle.std.proofs.Common.{◌∙◌, ap, sym}
use Rattle.std.specs.Ordering.{is_eq}
use Rattle.rx_row.proofs.TurnedTerms.{negated_coefficient, negated_other}
use Rattle.rx_row.proofs.opposites.is_negated.Goals as goal

pub returns-then-is_eq : goal.returns-then-is_eq
returns-then-is_eq c =
    negated_coefficient c.args.left.now c.args.right.now
    (sym (c.is_eq.ensures ∙ ap is_eq c.cmp.ensures) ∙ c.if-is_eq.true) c.are_opposite.ensures

pub returns-else-is_eq : goal.returns-else-is_eq
returns-else-is_eq c =
    negated_other c.args.left.now c.args.right.now
    (sym (c.is_eq.ensures ∙ ap is_eq c.cmp.ensures) ∙ c.if-is_eq.false) c.if-is_eq.false
