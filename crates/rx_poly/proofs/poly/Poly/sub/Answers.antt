-- What is combined by minus is the difference.
use Rattle.rx_plain.proofs.Forming.{value_formed}
use Rattle.rx_plain.specs.Formed.{kept}
use Rattle.rx_poly.specs.Limits.{is_within, body_difference}
use Rattle.rx_poly.specs.declared.poly_end.PolyEnd.TheVariants.{Large}
use Rattle.rx_poly.proofs.PolyLaws.{value-body_difference}
use Rattle.rx_poly.proofs.poly.Poly.sub.Goals as goal

pub returns-clause-value : goal.returns-clause-value
returns-clause-value c =
    value_formed Large (kept is_within (body_difference c.args.self.now c.args.other.now))
    c.combine.result _ (λ a. value-body_difference a c.args.self.now c.args.other.now)
    c.combine.ensures.forms
