-- The content divides each coefficient; where it is 1, nothing changes.
use Rattle.std.proofs.Common.{◌≡◌, ◌∙◌, ap, sym, map, ℤ, List}
use Rattle.rx_poly.specs.declared.body.Body.{Body, out-Body}
use Rattle.rx_poly.specs.declared.body.Mono.{Mono}
use Rattle.rx_fm.specs.Elimination.{coefficients}
use Rattle.rx_fm.specs.Numbers.{divides_all, gcd_with}
use Rattle.rx_relations.specs.Content.{content}
use Rattle.rx_relations.proofs.Dividing.{content_divides, primitive_one}
use Rattle.rx_relations.proofs.content.primitive.Goals as goal

pub returns-then-by-eq1 : goal.returns-then-by-eq1
returns-then-by-eq1 c =
    let lists = c.as_slice.ensures ∙ ap (λ (b : Body). (out-Body b).terms) c.body.ensures.body in
    let same : c.gcd_with-by.result ≡ content c.args.poly = c.gcd_with-by.ensures ∙
    ap (λ (ts : List (Mono × ℤ)). gcd_with 0 (map (λ (t : Mono × ℤ). t.1) ts)) lists in
    sym (primitive_one c.args.poly (sym same ∙ c.if-by-eq1.true))

pub divided_poly-requires : goal.divided_poly-requires
divided_poly-requires c =
    let lists = c.as_slice.ensures ∙ ap (λ (b : Body). (out-Body b).terms) c.body.ensures.body in
    let same : c.gcd_with-by.result ≡ content c.args.poly = c.gcd_with-by.ensures ∙
    ap (λ (ts : List (Mono × ℤ)). gcd_with 0 (map (λ (t : Mono × ℤ). t.1) ts)) lists in
    ap (λ d. divides_all d (coefficients c.args.poly)) same ∙ content_divides c.args.poly
