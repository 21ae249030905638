-- A polynomial stays one where each coefficient is divided by a common divisor.
use Rattle.std.proofs.Common.{◌≡◌, ◌∙◌, ap, map, ℤ, pos, List, unsigned_abs}
use Rattle.rx_poly.specs.Limits.{of_terms}
use Rattle.rx_poly.specs.Normal.{is_poly}
use Rattle.rx_poly.specs.Value.{quotient}
use Rattle.rx_poly.specs.declared.body.Body.{Body, out-Body}
use Rattle.rx_poly.specs.declared.body.Mono.{Mono}
use Rattle.rx_fm.proofs.Dividing.{divided_poly, each}
use Rattle.rx_fm.proofs.Gcd.{size_is}
use Rattle.rx_fm.proofs.combination.divided_poly.Goals as goal

pub unwrap-requires : goal.unwrap-requires
unwrap-requires c =
    let d = unsigned_abs c.args.by.now in
    let by : c.args.by.now ≡ pos d = size_is c.args.by.now c.requires.by in
    let lists = c.as_slice.ensures ∙ ap (λ (b : Body). (out-Body b).terms) c.body.ensures.body in
    let terms : c.in_ok-terms.terms ≡ each d (out-Body c.args.poly.now).terms =
    c.in_ok-terms.ensures ∙ (λ i. map (λ (t : Mono × ℤ). (t.0, quotient t.1 (by i))) (lists i)) in
    c.in_ok-quotient.ensures.exact.1 (ap (λ (ts : List (Mono × ℤ)). is_poly (of_terms ts)) terms
    ∙ divided_poly d c.args.poly.now c.body.ensures.normal c.requires.divides)
