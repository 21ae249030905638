-- The terms of polynomials can be summed, and what they make is normal.
use Rattle.std.proofs.Common.{◌∙◌, ap, refl, sym}
use Rattle.rx_poly.specs.declared.body.Body.{out-Body}
use Rattle.rx_poly.proofs.Neutral.{zero_sum}
use Rattle.rx_poly.proofs.PolyLaws.{poly_sum, added_normal}
use Rattle.rx_poly.proofs.poly.plus.Goals as goal

pub returns-then-is_empty : goal.returns-then-is_empty
returns-then-is_empty c =
    let none = (c.is_empty.ensures).0 c.if-is_empty.true in
    record {
      forms =
          zero_sum c.args.left c.args.right
          (ap (λ b. (out-Body b).terms) (sym c.body.ensures.body) ∙ none) c.as_normal.ensures.normal;
    }

pub moved_sum-requires-clause-left : goal.moved_sum-requires-clause-left
moved_sum-requires-clause-left c = poly_sum c.in_ok-first.first c.in_ok-first.ensures.normal

pub moved_sum-requires-clause-right : goal.moved_sum-requires-clause-right
moved_sum-requires-clause-right c = poly_sum c.in_ok-second.second c.in_ok-second.ensures.normal

pub within_limits-requires : goal.within_limits-requires
within_limits-requires c =
    added_normal c.in_ok-first.first c.in_ok-second.second refl refl c.in_ok-terms.ensures.forms.0
    c.in_ok-first.ensures.normal c.in_ok-second.ensures.normal c.in_ok-terms.ensures.forms.1
