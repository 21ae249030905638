-- Sums are one where their terms are.
use Rattle.std.proofs.Common.{ap, sym, ◌∙◌}
use Rattle.rx_poly.proofs.Same.{sums_of_terms}
use Rattle.rx_poly.specs.declared.body.Body.{Body, out-Body}
use Rattle.rx_poly.proofs.equality.is_same_body.Goals as goal

pub returns : goal.returns
returns c =
    let p = c.args.one.now in
    let q = c.args.other.now in (
      λ e.
          sums_of_terms p q
          (sym c.as_slice.ensures ∙ c.are_same_terms.ensures.0 e ∙ c.as_slice-2.ensures),
      λ e.
          c.are_same_terms.ensures.1 (c.as_slice.ensures ∙
          ap (λ (b : Body). (out-Body b).terms) e ∙ sym c.as_slice-2.ensures),
    )
