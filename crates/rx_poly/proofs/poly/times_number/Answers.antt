-- The terms of a polynomial times a number are normal.
use Rattle.std.proofs.Common.{◌∙◌, ap}
use Rattle.rx_poly.specs.Normal.{is_poly}
use Rattle.rx_poly.proofs.PolyLaws.{multiple_normal}
use Rattle.rx_poly.proofs.poly.times_number.Goals as goal

pub within_limits-requires : goal.within_limits-requires
within_limits-requires c =
    multiple_normal c.args.by.now c.body.result.now c.as_slice.ensures c.in_ok-terms.ensures.0
    (ap is_poly c.body.ensures.body ∙ c.body.ensures.normal) c.in_ok-terms.ensures.1
