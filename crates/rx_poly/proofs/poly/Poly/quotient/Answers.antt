-- The value of a quotient of two is the quotient of their values.
use Rattle.rx_plain.proofs.Forming.{value_formed}
use Rattle.rx_plain.specs.Formed.{kept}
use Rattle.rx_poly.specs.Division.{quotient_of}
use Rattle.rx_poly.specs.Limits.{is_within}
use Rattle.rx_poly.specs.declared.poly_end.PolyEnd.TheVariants.{Large}
use Rattle.rx_poly.proofs.DivisionLaws.{value-quotient_of}
use Rattle.rx_poly.proofs.poly.Poly.quotient.Goals as goal

pub returns-clause-value : goal.returns-clause-value
returns-clause-value c =
    value_formed Large (kept is_within (quotient_of c.args.self.now c.args.by.now)) c.divide.result
    _ (λ a. value-quotient_of a c.args.self.now c.args.by.now) c.divide.ensures.forms
