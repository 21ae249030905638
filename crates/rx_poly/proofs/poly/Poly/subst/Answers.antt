-- What is formed has the value of the polynomial where its variables have the values of their
-- replacements.
use Rattle.rx_plain.proofs.Forming.{value_formed}
use Rattle.rx_poly.specs.Substitution.{subst_body}
use Rattle.rx_poly.specs.declared.poly_end.PolyEnd.TheVariants.{Large}
use Rattle.rx_poly.proofs.SubstitutedValue.{value-subst_body}
use Rattle.rx_poly.proofs.poly.Poly.subst.Goals as goal

pub returns-clause-value : goal.returns-clause-value
returns-clause-value c =
    value_formed Large (subst_body c.args.with.now c.args.self.now) c.poly_with.result _
    (λ a. value-subst_body a c.args.with.now c.args.self.now) c.poly_with.ensures.forms
