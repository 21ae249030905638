-- The value of a remainder of two is the remainder of their values.
use Rattle.rx_plain.proofs.Forming.{value_formed}
use Rattle.rx_plain.specs.Formed.{kept}
use Rattle.rx_poly.specs.Division.{remainder_of}
use Rattle.rx_poly.specs.Limits.{is_within}
use Rattle.rx_poly.specs.declared.poly_end.PolyEnd.TheVariants.{Large}
use Rattle.rx_poly.proofs.DivisionLaws.{value-remainder_of}
use Rattle.rx_poly.proofs.poly.Poly.remainder.Goals as goal

pub returns-clause-value : goal.returns-clause-value
returns-clause-value c =
    value_formed Large (kept is_within (remainder_of c.args.self.now c.args.by.now))
    c.remainder.result _ (λ a. value-remainder_of a c.args.self.now c.args.by.now)
    c.remainder.ensures.forms
