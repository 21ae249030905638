-- The coefficients that were read are those of the monomial.
use Rattle.std.proofs.Common.{rules, ◌≡◌, ◌∙◌, ap, FitsSigned, to_z, of_z, unsigned_abs}
use Rattle.std.specs.Int.{w128}
use Rattle.std.proofs.lemmas.Int.{to_z-of_z}
use Rattle.std.proofs.lemmas.Result.{IfOk-weaker}
use Rattle.rx_fm.specs.Elimination.{at, eliminant, primitive_part}
use Rattle.rx_fm.proofs.combination.joined.Goals as goal

pub returns-clause-same : goal.returns-clause-same
returns-clause-same c =
    let p : FitsSigned w128 c.coeff-positive.result = search rules in
    let n : FitsSigned w128 c.in-Some.negative = search rules in
    let q : FitsSigned w128 c.coeff.result = search rules in
    let a : unsigned_abs (to_z w128 (of_z w128 c.coeff-positive.result)) ≡
    unsigned_abs (at c.args.mono.now c.args.first.now) =
    ap unsigned_abs (to_z-of_z w128 c.coeff-positive.result p ∙ c.coeff-positive.ensures) in
    let b : unsigned_abs (to_z w128 (of_z w128 c.in-Some.negative)) ≡
    unsigned_abs (at c.args.mono.now c.args.second.now) =
    ap unsigned_abs (to_z-of_z w128 c.in-Some.negative n ∙ c.in-Some.ensures.1) ∙
    ap unsigned_abs (to_z-of_z w128 c.coeff.result q ∙ c.coeff.ensures) in
    IfOk-weaker c.reduced.result _ _ (λ r e. e ∙
    ap primitive_part (c.in_ok-sum.ensures.0 ∙
    (λ i. eliminant (a i) (b i) c.args.first.now c.args.second.now))) c.reduced.ensures.same
