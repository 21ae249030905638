-- One more symbol.
use Rattle.std.proofs.Common.{◌≡◌, ◌∙◌, ◌<◌, ◌+◌, ◌||◌, IfSome, Option, ap, drop, get_or, length, subst, sym, ℕ}
use Rattle.rx_anchors.specs.Members.{arity_of}
use Rattle.rx_anchors.specs.Values.{with_polynomial}
use Rattle.rx_poly.specs.declared.body.Body.{Body}
use Rattle.rx_solve.specs.Attempts.{Tried}
use Rattle.rx_rank.proofs.NumberLaws.{has_poly, number_put}
use Rattle.rx_rank.proofs.TryLaws.{then_none, then_some}
use Rattle.rx_rank.proofs.Walks.{next_from}
use Rattle.rx_rank.specs.Choices.{filled, first_serving, is_raised, pairs_from}
use Rattle.rx_rank.specs.Numbers.{HasPoly, Numbered, by_number, by_numbers, tried_number}
use Rattle.rx_rank.specs.Tries.{made_then, noting}
use Rattle.rx_rank.specs.declared.attempt.Attempt.{Attempt}
use Rattle.rx_rank.proofs.quick.filled.Goals as goal

pub returns-in_default-made-clause-tried : goal.returns-in_default-made-clause-tried
returns-in_default-made-clause-tried g c =
    let n = c.args.numbered.now in
    let m = c.loop-symbol.numbered in
    let same = c.loop-symbol.invariant.same in
    let infos = c.args.infos.now in
    let order = c.args.order.now in
    let i = c.loop-symbol.symbol-index in
    let f = get_or order i 0 in
    let numbers = c.loop-symbol.values.items in
    let values = by_numbers n.polys numbers in
    let before = c.loop-symbol.noted in
    let attempt = c.in-Some.attempt in
    let raised = c.args.raised in
    let whole = filled infos n.pairs raised (by_numbers n.polys c.args.start.items) order in
    let next = λ (q : Body). filled infos n.pairs raised (with_polynomial values f q)
    (drop (i + 1) order) in
    let raw : tried_number m.polys attempt ≡ first_serving c.is_raised.result c.arity_of.result
    (by_numbers m.polys c.as_slice.result.now) (pairs_from f m.pairs) =
    subst (λ (o : Option (Attempt ℕ)). IfSome o (λ t. tried_number m.polys t ≡
    first_serving c.is_raised.result c.arity_of.result (by_numbers m.polys c.as_slice.result.now)
    (pairs_from f m.pairs))) c.in-Some.is c.in_ok-attempt.ensures.tried in
    let told : tried_number n.polys attempt ≡ first_serving (is_raised raised f) (arity_of infos f)
    values (pairs_from f n.pairs) =
    ap (λ (k : Numbered). tried_number k.polys attempt) (sym same) ∙ raw
    ∙ (λ j. first_serving (c.is_raised.ensures j) (c.arity_of.ensures j)
    (by_numbers (same j).polys (c.as_slice.ensures.value j)) (pairs_from f (same j).pairs)) in
    let opened : noting before (made_then (by_number n.polys attempt.made) attempt.noted next) ≡
    whole =
    ap (λ (t : Tried Body). noting before (made_then t.made t.noted next)) told
    ∙ ap (λ fs. noting before (filled infos n.pairs raised values fs))
    (sym (next_from order i 0 c.loop-symbol-test.true))
    ∙ c.loop-symbol.invariant.decides in
    then_none before (by_number n.polys attempt.made) attempt.noted next whole opened
    (ap (by_number n.polys) c.in_default-made.is)

pub loop-symbol-preserved : goal.loop-symbol-preserved
loop-symbol-preserved g c =
    let n = c.args.numbered.now in
    let m = c.loop-symbol.numbered in
    let same = c.loop-symbol.invariant.same in
    let infos = c.args.infos.now in
    let order = c.args.order.now in
    let i = c.loop-symbol.symbol-index in
    let f = get_or order i 0 in
    let numbers = c.loop-symbol.values.items in
    let values = by_numbers n.polys numbers in
    let before = c.loop-symbol.noted in
    let attempt = c.in-Some.attempt in
    let raised = c.args.raised in
    let whole = filled infos n.pairs raised (by_numbers n.polys c.args.start.items) order in
    let next = λ (q : Body). filled infos n.pairs raised (with_polynomial values f q)
    (drop (i + 1) order) in
    let raw : tried_number m.polys attempt ≡ first_serving c.is_raised.result c.arity_of.result
    (by_numbers m.polys c.as_slice.result.now) (pairs_from f m.pairs) =
    subst (λ (o : Option (Attempt ℕ)). IfSome o (λ t. tried_number m.polys t ≡
    first_serving c.is_raised.result c.arity_of.result (by_numbers m.polys c.as_slice.result.now)
    (pairs_from f m.pairs))) c.in-Some.is c.in_ok-attempt.ensures.tried in
    let told : tried_number n.polys attempt ≡ first_serving (is_raised raised f) (arity_of infos f)
    values (pairs_from f n.pairs) =
    ap (λ (k : Numbered). tried_number k.polys attempt) (sym same) ∙ raw
    ∙ (λ j. first_serving (c.is_raised.ensures j) (c.arity_of.ensures j)
    (by_numbers (same j).polys (c.as_slice.ensures.value j)) (pairs_from f (same j).pairs)) in
    let opened : noting before (made_then (by_number n.polys attempt.made) attempt.noted next) ≡
    whole =
    ap (λ (t : Tried Body). noting before (made_then t.made t.noted next)) told
    ∙ ap (λ fs. noting before (filled infos n.pairs raised values fs))
    (sym (next_from order i 0 c.loop-symbol-test.true))
    ∙ c.loop-symbol.invariant.decides in
    let k = c.in-Some-made.number in
    let has : HasPoly n.polys attempt.made =
    subst (λ (o : Option (Attempt ℕ)). IfSome o (λ t. HasPoly n.polys t.made)) c.in-Some.is
    (subst (λ (l : Numbered). IfSome c.in_ok-attempt.field-0 (λ t. HasPoly l.polys t.made)) same
    c.in_ok-attempt.ensures.made) in
    let within : k < length n.polys = subst (HasPoly n.polys) c.in-Some-made.is has in
    let p = has_poly n.polys k within in
    let after = before || attempt.noted in
    record {
      solver = c.first_serving.ensures.solver;
      same = c.first_serving.ensures.same ∙ same;
      decides =
          (λ j. noting after (filled infos n.pairs raised
          (by_numbers n.polys (c.put_number.ensures j)) (drop (i + 1) order)))
          ∙ ap (λ vs. noting after (filled infos n.pairs raised vs (drop (i + 1) order)))
          (number_put n.polys numbers f k p.0 p.1)
          ∙ then_some before (by_number n.polys attempt.made) attempt.noted next whole opened p.0
          (ap (by_number n.polys) c.in-Some-made.is ∙ p.1);
    }
