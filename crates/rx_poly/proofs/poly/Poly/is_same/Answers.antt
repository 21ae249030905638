-- The comparison of the two sums.
use Rattle.std.proofs.Common.{sym, ◌∙◌}
use Rattle.rx_poly.proofs.poly.Poly.is_same.Goals as goal

pub returns : goal.returns
returns c = rw (← c.self.view_is, ← c.other.view_is) (
  λ e. sym c.get.ensures ∙ c.is_same_body.ensures.0 e ∙ c.get-2.ensures,
  λ e. c.is_same_body.ensures.1 (c.get.ensures ∙ e ∙ sym c.get-2.ensures),
)
