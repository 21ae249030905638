-- The multiples that are taken are the least ones.
use Rattle.std.proofs.Common.{rules, ◌≡◌, ◌∙◌, ap, sym, ◌&&◌, ℤ, FitsSigned}
use Rattle.std.proofs.lemmas.Bool.{and_from, and_left}
use Rattle.std.proofs.lemmas.Int.{to_z-of_z}
use Rattle.std.proofs.lemmas.Result.{err_from_is_err_and}
use Rattle.std.specs.Int.{w128}
use Rattle.rx_plain.specs.Formed.{Formed}
use Rattle.rx_plain.proofs.Booleans.{and_false}
use Rattle.rx_poly.specs.declared.body.Body.{Body}
use Rattle.rx_relations.specs.Cancelling.{difference_formed}
use Rattle.rx_relations.specs.Content.{cofactor, primitive_parts}
use Rattle.rx_relations.proofs.cancelling.cancelled_by.Goals as goal

same_difference : {k l m n : ℤ} (p q : Body) → k ≡ m → l ≡ n →
    difference_formed k p l q ≡ difference_formed m p n q
same_difference p q e f = λ i. difference_formed (e i) p (f i) q

pub returns-in_err-value : goal.returns-in_err-value
returns-in_err-value c =
    let kf : FitsSigned w128 c.cofactor-k.result = search rules in
    let lf : FitsSigned w128 c.cofactor-l.result = search rules in
    let k = to_z-of_z w128 c.cofactor-k.result kf ∙ c.cofactor-k.ensures in
    let l = to_z-of_z w128 c.cofactor-l.result lf ∙ c.cofactor-l.ensures in
    let v = same_difference c.args.combination.now.value c.args.pivot.now.value k l in
    let p = err_from_is_err_and c.from_residual.result c.from_residual.ensures.1 in
    rw (p.1, p.2) (λ h. and_left _ _ (sym (ap (λ (f : Formed Body). f.within) v) ∙
    c.in_err-value.ensures h))

pub returns-in_err-relation : goal.returns-in_err-relation
returns-in_err-relation c =
    let kf : FitsSigned w128 c.cofactor-k.result = search rules in
    let lf : FitsSigned w128 c.cofactor-l.result = search rules in
    let k = to_z-of_z w128 c.cofactor-k.result kf ∙ c.cofactor-k.ensures in
    let l = to_z-of_z w128 c.cofactor-l.result lf ∙ c.cofactor-l.ensures in
    let r = same_difference c.args.combination.now.relation c.args.pivot.now.relation k l in
    let p = err_from_is_err_and c.from_residual-in_err-relation.result
    c.from_residual-in_err-relation.ensures.1 in
    let first = (difference_formed (cofactor c.args.standing.now c.args.own.now)
    c.args.combination.now.value (cofactor c.args.own.now c.args.standing.now)
    c.args.pivot.now.value).within in
    rw (p.1, p.2) (λ h. ap (λ b. first && b) (sym (ap (λ (f : Formed Body). f.within) r) ∙
    c.in_err-relation.ensures h) ∙ and_false first)

pub returns : goal.returns
returns c =
    let kf : FitsSigned w128 c.cofactor-k.result = search rules in
    let lf : FitsSigned w128 c.cofactor-l.result = search rules in
    let k = to_z-of_z w128 c.cofactor-k.result kf ∙ c.cofactor-k.ensures in
    let l = to_z-of_z w128 c.cofactor-l.result lf ∙ c.cofactor-l.ensures in
    let v = same_difference c.args.combination.now.value c.args.pivot.now.value k l in
    let r = same_difference c.args.combination.now.relation c.args.pivot.now.relation k l in
    let first = c.in_ok-value.ensures.0 ∙ ap (λ (f : Formed Body). f.form) v in
    let second = c.in_ok-relation.ensures.0 ∙ ap (λ (f : Formed Body). f.form) r in (
      c.in_ok-parts.ensures ∙
          (λ i. primitive_parts (record { value = first i; relation = second i })),
      and_from _ _ (sym (ap (λ (f : Formed Body). f.within) v) ∙ c.in_ok-value.ensures.1)
          (sym (ap (λ (f : Formed Body). f.within) r) ∙ c.in_ok-relation.ensures.1),
    )
