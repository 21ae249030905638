-- One pair of the symbol more, whose instance doesn't serve.
use Rattle.std.proofs.Common.{◌≡◌, ◌∙◌, ap, sym, subst, cond, arith, refl, ◌+◌, ◌==◌, ◌<◌, Bool, true, false, Option, None, Some, List, ◌∷◌, drop, get_or, length, map, slice_set}
use Rattle.std.proofs.lemmas.Bool.Decides.{nat_tests}
use Rattle.std.specs.Option.{is_some}
use Rattle.rx_poly.specs.declared.body.Body.{Body}
use Rattle.rx_pairs.specs.declared.pair.Pair.{Pair}
use Rattle.rx_solve.specs.Attempts.{Tried, first_applying, made_or}
use Rattle.rx_anchors.specs.Values.{polynomial_of}
use Rattle.rx_rank.proofs.TryLaws.{first_none}
use Rattle.rx_rank.proofs.Walks.{next_from, put_same}
use Rattle.rx_rank.specs.Answers.{tried}
use Rattle.rx_rank.specs.Choices.{first_serving, from_target, instance_on, pairs_from, raised_by, serving}
use Rattle.rx_rank.specs.Tries.{and_then, noting}
use Rattle.rx_rank.proofs.filling.first_serving.Goals as goal

nothing_made : {A : Type 0} (o : Option A) → is_some o ≡ false → o ≡ None
nothing_made None e = refl
nothing_made (Some x) e = cc

pub loop-at-preserved : goal.loop-at-preserved
loop-at-preserved g c =
    let a = c.args in
    let values = a.values.now in
    let f = a.symbol in
    let pairs = a.pairs.now in
    let at = c.loop-at.at in
    let d = c.index-pairs-at.result in
    let given = from_target a.raised a.arity values (pairs_from f pairs) in
    let rest = pairs_from f (drop (at + 1) pairs) in
    let noted = c.loop-at.noted in
    let attempt = c.in_ok-attempt.attempt in
    let put : slice_set c.loop-at.pairs at c.target_of.new.known ≡ pairs =
    put_same c.loop-at.pairs at d c.target_of.new.known
    c.target_of.ensures.pair ∙ c.loop-at.invariant.same in
    let one = get_or c.loop-at.pairs at d in
    let here : one ≡ get_or pairs at d =
    ap (λ (ps : List Pair). get_or ps at d) c.loop-at.invariant.same in
    let own : (one.left.0 == f) ≡ true =
    grind (arith, nat_tests, c.if-pair-symbol.false, c.pair.ensures) in
    let within : at < length pairs = omega arith in
    let tries : tried attempt ≡ given (get_or pairs at d) =
    c.in_ok-attempt.ensures.tried
    ∙ ap (λ (t : Tried Body). and_then t (serving a.arity values
    (pairs_from f (slice_set c.loop-at.pairs at c.target_of.new.known))))
    c.in_ok-instance.ensures.tried
    ∙ ap (λ (ps : List Pair). and_then
    (and_then (instance_on one (polynomial_of values one.right.0)) (raised_by a.raised))
    (serving a.arity values (pairs_from f ps))) put
    ∙ ap (λ (p : Pair). given p) here in
    let opened : noting noted (made_or attempt.made attempt.noted
    (first_applying (map given rest))) ≡
    first_serving a.raised a.arity values (pairs_from f pairs) =
    ap (λ (t : Tried Body). noting noted (made_or t.made t.noted
    (first_applying (map given rest)))) tries
    ∙ ap (λ (b : Bool). noting noted (first_applying (map given
    (cond b (get_or pairs at d ∷ rest) rest))))
    (sym (subst (λ (p : Pair). (p.left.0 == f) ≡ true) here own))
    ∙ ap (λ (ps : List Pair). noting noted (first_applying (map given (pairs_from f ps))))
    (sym (next_from pairs at d within))
    ∙ c.loop-at.invariant.decides in
    record {
      solver = c.serving_instance.ensures.solver;
      same = c.serving_instance.ensures.pairs ∙ put;
      decides = first_none noted attempt.made attempt.noted (first_applying (map given rest))
          (first_serving a.raised a.arity values (pairs_from f pairs)) opened
          (nothing_made attempt.made (sym c.is_some.ensures ∙ c.if-is_some.false));
    }
