-- Each turn adds one product; what is left still decides the whole product and its limits.
use Rattle.std.proofs.Common.{[], ap, sym, ◌∙◌}
use Rattle.std.proofs.lemmas.Result.{err_from_is_err_and}
use Rattle.rx_poly.proofs.ProductLaws.{value-body_product}
use Rattle.rx_poly.proofs.Running.{begin, no_sum, after_sum, finished, within_finished}
use Rattle.rx_poly.specs.Products.{sum_of_products_within}
use Rattle.rx_poly.specs.Normal.{is_poly}
use Rattle.rx_poly.specs.Value.{value}
use Rattle.rx_poly.specs.declared.body.Body.{out-Body}
use Rattle.rx_poly.proofs.poly.Poly.mul.Goals as goal

pub loop-term-init : goal.loop-term-init
loop-term-init c =
    begin c.in_ok-start.start c.body.result.now c.as_slice-term-items.result.now
    (out-Body c.args.other.now).terms c.as_slice-term-items.ensures c.in_ok-start.ensures
    (ap is_poly c.body.ensures.body ∙ c.body.ensures.normal)

pub returns-in_err-sum-clause-forms : goal.returns-in_err-sum-clause-forms
returns-in_err-sum-clause-forms c =
    let p = err_from_is_err_and c.from_residual-in_err-sum.result
    c.from_residual-in_err-sum.ensures.1 in
    rw (p.1, p.2, ← c.body.ensures.body) (λ h.
    ap (λ ts. sum_of_products_within [] ts (out-Body c.args.other.now).terms)
    (sym c.as_slice-term-items.ensures)
    ∙ no_sum c.as_slice-term-items.result.now (out-Body c.args.other.now).terms
    c.loop-term.term-index c.loop-term-test.true c.term-item.is c.loop-term.invariant
    c.in_ok-product.ensures.forms.0 (c.in_err-sum.ensures.forms h))

pub loop-term-preserved : goal.loop-term-preserved
loop-term-preserved c =
    after_sum c.as_slice-term-items.result.now (out-Body c.args.other.now).terms
    c.loop-term.term-index c.loop-term-test.true c.term-item.is c.loop-term.invariant
    c.in_ok-product.ensures.forms.0 c.in_ok-sum.ensures.forms.0 c.in_ok-product.ensures.forms.1
    c.in_ok-sum.ensures.forms.1

pub returns-clause-forms : goal.returns-clause-forms
returns-clause-forms c = rw (← c.body.ensures.body) (
  finished c.body.result.now c.args.other.now c.loop-term.sum c.loop-term.term-index
      c.as_slice-term-items.ensures c.loop-term-test.false c.loop-term.invariant,
  within_finished c.body.result.now c.args.other.now c.loop-term.sum c.loop-term.term-index
      c.as_slice-term-items.ensures c.loop-term-test.false c.loop-term.invariant,
)

pub returns-clause-value : goal.returns-clause-value
returns-clause-value c = rw (← c.body.ensures.body) (λ a.
    ap (value a) (finished c.body.result.now c.args.other.now c.loop-term.sum
    c.loop-term.term-index c.as_slice-term-items.ensures c.loop-term-test.false
    c.loop-term.invariant)
    ∙ value-body_product a c.body.result.now c.args.other.now)
