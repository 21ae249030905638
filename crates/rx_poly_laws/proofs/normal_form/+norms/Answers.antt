-- What has as value that of both parts joined has the value of the term.
use Rattle.std.proofs.Common.{◌∙◌, ap}
use Rattle.std.proofs.lemmas.Result.{IfOk-weaker}
use Rattle.rx_poly_laws.proofs.NormLaws.{negated_value, sum_value, product_value, quotient_value, remainder_value}
use Rattle.rx_poly_laws.specs.Norm.{term_value}
use Rattle.rx_poly_laws.specs.Operations.{value_by}
use Rattle.rx_poly_laws.proofs.normal_form.+norms.Goals as goal

pub norm-returns-in_ok-norm-in-Neg-clause-value : goal.norm-returns-in_ok-norm-in-Neg-clause-value
norm-returns-in_ok-norm-in-Neg-clause-value t c =
    IfOk-weaker c.scale-in-Neg.result _ _ (λ b e.
    negated_value c.args.term.now c.in_ok-norm-in-Neg.field-0 c.get.ensures
    c.in_ok-norm-in-Neg.ensures.value c.in-Neg.is b e) c.scale-in-Neg.ensures.value

pub norm-returns-in-Add-clause-value : goal.norm-returns-in-Add-clause-value
norm-returns-in-Add-clause-value t c =
    IfOk-weaker c.norm_of_both.result _ _ (sum_value c.args.term.now c.in-Add.left c.in-Add.right c.in-Add.is)
    c.norm_of_both.ensures.value

pub norm-returns-in-Mul-clause-value : goal.norm-returns-in-Mul-clause-value
norm-returns-in-Mul-clause-value t c =
    IfOk-weaker c.norm_of_both-in-Mul.result _ _ (product_value c.args.term.now c.in-Mul.left c.in-Mul.right c.in-Mul.is)
    c.norm_of_both-in-Mul.ensures.value

pub norm-returns-in-Div-clause-value : goal.norm-returns-in-Div-clause-value
norm-returns-in-Div-clause-value t c =
    IfOk-weaker c.norm_of_both-in-Div.result _ _ (quotient_value c.args.term.now c.in-Div.left c.in-Div.right c.in-Div.is)
    c.norm_of_both-in-Div.ensures.value

pub norm-returns-in-Mod-clause-value : goal.norm-returns-in-Mod-clause-value
norm-returns-in-Mod-clause-value t c =
    IfOk-weaker c.norm_of_both-in-Mod.result _ _ (remainder_value c.args.term.now c.in-Mod.left c.in-Mod.right c.in-Mod.is)
    c.norm_of_both-in-Mod.ensures.value

pub norm_of_both-returns-clause-value : goal.norm_of_both-returns-clause-value
norm_of_both-returns-clause-value t c =
    IfOk-weaker c.joined.result _ _ (λ p e a.
    e a ∙ (λ i. value_by c.args.operation
    ((c.in_ok-left.ensures.value a ∙ ap (term_value a) c.get.ensures) i)
    ((c.in_ok-right.ensures.value a ∙ ap (term_value a) c.get-2.ensures) i)))
    c.joined.ensures.value
