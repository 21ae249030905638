-- The number that is passed on is the number.
use Rattle.std.proofs.Common.{◌∙◌, ap, ◌*ℤ◌, to_z, of_z}
use Rattle.std.proofs.lemmas.Int.{to_z-of_z}
use Rattle.std.specs.Int.{w128}
use Rattle.rx_plain.proofs.Forming.{value_formed}
use Rattle.rx_plain.specs.Formed.{kept}
use Rattle.rx_poly.specs.Limits.{is_within, scaled_by}
use Rattle.rx_poly.specs.Value.{value}
use Rattle.rx_poly.specs.declared.poly_end.PolyEnd.TheVariants.{Large}
use Rattle.rx_poly.proofs.PolyLaws.{value-scaled_by}
use Rattle.rx_poly.proofs.poly.Poly.scale.Goals as goal

pub returns-clause-value : goal.returns-clause-value
returns-clause-value c =
    value_formed Large (kept is_within (scaled_by (to_z w128 (of_z w128 c.args.by))
    c.args.self.now)) c.times_number.result _
    (λ a. value-scaled_by a _ c.args.self.now ∙
    ap (λ k. k *ℤ value a c.args.self.now) (to_z-of_z w128 c.args.by c.ranges.by))
    c.times_number.ensures.forms
