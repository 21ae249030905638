-- What is combined by plus is the sum.
use Rattle.std.proofs.Common.{◌∙◌, ap, subst}
use Rattle.rx_plain.proofs.Forming.{value_formed}
use Rattle.rx_plain.specs.Formed.{Forms, kept}
use Rattle.rx_poly.specs.Limits.{is_within}
use Rattle.rx_poly.specs.Signs.{combined}
use Rattle.rx_poly.specs.Value.{value}
use Rattle.rx_poly.specs.declared.body.Body.{Body}
use Rattle.rx_poly.specs.declared.poly_end.PolyEnd.TheVariants.{Large}
use Rattle.rx_poly.specs.declared.sign.Sign.TheVariants.{Plus}
use Rattle.rx_poly.proofs.PolyLaws.{combined_plus, value-body_sum}
use Rattle.rx_poly.proofs.poly.Poly.add.Goals as goal

pub returns-clause-forms : goal.returns-clause-forms
returns-clause-forms c =
    subst (λ (b : Body). Forms Large c.combine.result (kept is_within b))
    (combined_plus c.args.self.now c.args.other.now) c.combine.ensures.forms

pub returns-clause-value : goal.returns-clause-value
returns-clause-value c =
    value_formed Large (kept is_within (combined Plus c.args.self.now c.args.other.now))
    c.combine.result _
    (λ a. ap (value a) (combined_plus c.args.self.now c.args.other.now) ∙
    value-body_sum a c.args.self.now c.args.other.now) c.combine.ensures.forms
