-- The terms of a polynomial have normal monomials, and stay listed under a common factor.
use Rattle.std.proofs.Common.{◌∙◌, ap}
use Rattle.rx_poly.specs.Normal.{is_poly}
use Rattle.rx_poly.proofs.PolyLaws.{poly_terms}
use Rattle.rx_poly.proofs.ProductLaws.{scaled_normal}
use Rattle.rx_poly.proofs.poly.times_term.Goals as goal

pub scale-requires-clause-terms : goal.scale-requires-clause-terms
scale-requires-clause-terms c =
    rw c.as_slice.ensures ((poly_terms c.body.result.now (ap is_poly c.body.ensures.body ∙
    c.body.ensures.normal)).keys)

pub within_limits-requires : goal.within_limits-requires
within_limits-requires c =
    scaled_normal c.args.term.now c.body.result.now c.requires.normal c.requires.nonzero
    (ap is_poly c.body.ensures.body ∙ c.body.ensures.normal) c.as_slice.ensures
    c.in_ok-terms.ensures.0 c.in_ok-terms.ensures.1
