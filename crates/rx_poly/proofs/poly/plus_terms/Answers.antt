-- The terms can be merged, and what they make is the sum.
use Rattle.std.proofs.Common.{◌∙◌, ap, subst}
use Rattle.std.proofs.lemmas.Result.{err_from_is_err_and}
use Rattle.rx_plain.specs.Formed.{Forms}
use Rattle.rx_poly.specs.Normal.{is_poly}
use Rattle.rx_poly.specs.declared.body.Body.{out-Body}
use Rattle.rx_poly.specs.declared.poly_end.PolyEnd.TheVariants.{Large}
use Rattle.rx_poly.proofs.PolyLaws.{poly_sum}
use Rattle.rx_poly.proofs.Runs.{plus_kept, plus_normal, plus_unfit}
use Rattle.rx_poly.proofs.poly.plus_terms.Goals as goal

pub merge-requires-clause-left : goal.merge-requires-clause-left
merge-requires-clause-left c =
    rw c.as_slice.ensures (poly_sum c.body.result.now (ap is_poly c.body.ensures.body ∙
    c.body.ensures.normal))

pub returns-in_err-terms : goal.returns-in_err-terms
returns-in_err-terms c =
    let p = err_from_is_err_and c.from_residual.result c.from_residual.ensures.1 in
    rw (p.1, p.2) (record {
      forms = λ h. plus_unfit c.args.sum.now c.args.terms.now
          (c.as_slice.ensures ∙ ap (λ b. (out-Body b).terms) c.body.ensures.body)
          (c.in_err-terms.ensures h);
    })

pub within_limits-requires : goal.within_limits-requires
within_limits-requires c =
    plus_normal c.args.sum.now c.args.terms.now c.body.ensures.normal c.requires.sum
    c.requires.normal (c.as_slice.ensures ∙ ap (λ b. (out-Body b).terms) c.body.ensures.body)
    c.in_ok-terms.ensures.0 c.in_ok-terms.ensures.1

pub returns : goal.returns
returns c =
    record {
      forms =
          subst (Forms Large c.within_limits.result)
          (plus_kept c.args.sum.now c.args.terms.now
          (c.as_slice.ensures ∙ ap (λ b. (out-Body b).terms) c.body.ensures.body)
          c.in_ok-terms.ensures.0 c.in_ok-terms.ensures.1) c.within_limits.ensures.forms;
    }
