-- A rounded polynomial is one, so its terms have a polynomial.
use Rattle.std.proofs.Common.{◌≡◌, ◌∙◌, ap, subst, true, false, IsSome}
use Rattle.rx_poly.specs.Limits.{of_terms}
use Rattle.rx_poly.specs.Normal.{is_poly}
use Rattle.rx_poly.specs.declared.body.Body.{Body, out-Body}
use Rattle.rx_cert.specs.Rounding.{rounded_terms}
use Rattle.rx_cert.proofs.Rounded.{rounded_poly}
use Rattle.rx_cert.proofs.rounding.round.Goals as goal

pub unreachable-requires : goal.unreachable-requires
unreachable-requires c =
    let terms : c.in_ok-terms.terms ≡ rounded_terms c.args.div.now (out-Body c.args.poly.now).terms
    =
    c.in_ok-terms.ensures ∙ ap (rounded_terms c.args.div.now)
    (c.as_slice.ensures ∙ ap (λ (b : Body). (out-Body b).terms) c.body.ensures.body) in
    let some : IsSome c.in_ok-made.made = c.in_ok-made.ensures.exact.1
    (ap (λ ts. is_poly (of_terms ts)) terms ∙
    rounded_poly c.args.div.now c.args.poly.now c.requires c.body.ensures.normal) in
    let no : false ≡ true = subst IsSome c.in-None.is some in
    cc
