-- The terms that are borrowed are those of the polynomials.
use Rattle.std.proofs.Common.{◌≡◌, ◌∙◌, ap, sym}
use Rattle.rx_poly.specs.declared.body.Body.{Body, out-Body}
use Rattle.rx_row.specs.Opposites.{one_less_negated}
use Rattle.rx_row.proofs.TurnedTerms.{is_minus}
use Rattle.rx_row.proofs.opposites.is_one_less_negated.Goals as goal

pub returns : goal.returns
returns c =
    let terms = λ (b : Body). (out-Body b).terms in
    let left : c.as_slice.result.now ≡ terms c.args.left.now = c.as_slice.ensures ∙
    ap terms c.body.ensures.body in
    let right : c.as_slice-2.result.now ≡ terms c.args.right.now = c.as_slice-2.ensures ∙
    ap terms c.body-2.ensures.body in
    let is = is_minus c.args.left.now c.args.right.now c.body-2.ensures.normal in
    let tells = c.are_one_less_negated.ensures in (
      λ e. is.0 (sym left ∙ tells.0 e ∙ ap one_less_negated right),
      λ e. tells.1 (left ∙ is.1 e ∙ ap one_less_negated (sym right)),
    )
