-- The terms of polynomials can be merged, and what they make is normal.
use Rattle.std.proofs.Common.{◌∙◌, ap}
use Rattle.rx_poly.specs.Normal.{is_poly}
use Rattle.rx_poly.proofs.PolyLaws.{poly_sum, merged_normal}
use Rattle.rx_poly.proofs.poly.combine.Goals as goal

pub merge-requires-clause-left : goal.merge-requires-clause-left
merge-requires-clause-left c =
    rw c.as_slice.ensures (poly_sum c.body.result.now (ap is_poly c.body.ensures.body ∙
    c.body.ensures.normal))

pub merge-requires-clause-right : goal.merge-requires-clause-right
merge-requires-clause-right c =
    rw c.as_slice-2.ensures (poly_sum c.body-2.result.now (ap is_poly c.body-2.ensures.body ∙
    c.body-2.ensures.normal))

pub within_limits-requires : goal.within_limits-requires
within_limits-requires c =
    merged_normal c.args.sign c.body.result.now c.body-2.result.now c.as_slice.ensures
    c.as_slice-2.ensures c.in_ok-terms.ensures.0
    (ap is_poly c.body.ensures.body ∙ c.body.ensures.normal)
    (ap is_poly c.body-2.ensures.body ∙ c.body-2.ensures.normal)
    c.in_ok-terms.ensures.1
