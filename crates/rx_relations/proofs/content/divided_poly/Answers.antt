-- A polynomial stays one where each coefficient is divided by a common divisor.
use Rattle.std.proofs.Common.{◌≡◌, ◌∙◌, ap, ℤ, List}
use Rattle.rx_poly.specs.Limits.{of_terms}
use Rattle.rx_poly.specs.Normal.{is_poly}
use Rattle.rx_poly.specs.declared.body.Body.{Body, out-Body}
use Rattle.rx_poly.specs.declared.body.Mono.{Mono}
use Rattle.rx_fm.proofs.Dividing.{divided_poly, each}
use Rattle.rx_relations.proofs.content.divided_poly.Goals as goal

pub unwrap-requires : goal.unwrap-requires
unwrap-requires c =
    let lists = c.as_slice.ensures ∙ ap (λ (b : Body). (out-Body b).terms) c.body.ensures.body in
    let terms : c.in_ok-terms.terms ≡ each c.args.by (out-Body c.args.poly.now).terms =
    c.in_ok-terms.ensures ∙ ap (each c.args.by) lists in
    c.in_ok-quotient.ensures.exact.1 (ap (λ (ts : List (Mono × ℤ)). is_poly (of_terms ts)) terms
    ∙ divided_poly c.args.by c.args.poly.now c.body.ensures.normal c.requires)
