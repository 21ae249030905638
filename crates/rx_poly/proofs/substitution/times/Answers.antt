-- 1 times a polynomial is that polynomial.
use Rattle.std.proofs.Common.{rules, ◌∙◌, ap, sym, Some}
use Rattle.rx_poly.specs.declared.body.Body.{out-Body}
use Rattle.rx_poly.proofs.Neutral.{one_product, one_terms}
use Rattle.rx_poly.proofs.substitution.times.Goals as goal

pub returns-then-number-eq1 : goal.returns-then-number-eq1
returns-then-number-eq1 c =
    record {
      forms =
          one_product c.args.product c.args.factor
          (one_terms (out-Body c.args.product).terms
          (sym c.is_constant.ensures.number ∙ c.in-Some.is ∙ ap Some (search rules)))
          c.as_normal.ensures.normal;
    }
