-- One pair more.
use Rattle.std.proofs.Common.{◌≡◌, ◌∙◌, ap, sym, subst, arith, ◌+◌, ◌==◌, IfSome, Option, Some, true, false, drop, map, slice_get}
use Rattle.std.proofs.lemmas.Bool.Decides.{nat_tests}
use Rattle.rx_pairs.specs.declared.pair.Pair.{Pair}
use Rattle.rx_poly.specs.declared.body.Body.{Body}
use Rattle.rx_solve.specs.Attempts.{Tried, first_applying, made_or}
use Rattle.rx_rank.proofs.NumberLaws.{made_poly, no_number, pair_left_out, pair_of_it}
use Rattle.rx_rank.proofs.TryLaws.{first_none, first_some}
use Rattle.rx_rank.specs.Choices.{first_serving, from_target, pairs_from}
use Rattle.rx_rank.specs.Numbers.{HasPoly, Numbered, by_number, by_numbers, tried_number}
use Rattle.rx_rank.specs.Tries.{noting}
use Rattle.rx_rank.specs.declared.attempt.Attempt.{Attempt}
use Rattle.rx_rank.proofs.quick.first_serving.Goals as goal

pub loop-at-preserved-then-pair-turn : goal.loop-at-preserved-then-pair-turn
loop-at-preserved-then-pair-turn g c =
    let n = c.args.numbered.now in
    let turn = c.args.turn.now in
    let f = turn.symbol in
    let at = c.loop-at.at in
    let pair = c.in-Some.pair.now in
    let mine = pairs_from f n.pairs in
    let given = from_target turn.raised turn.arity (by_numbers n.polys turn.values.now) mine in
    let there : slice_get n.pairs at ≡ Some pair =
    sym (c.in-Some.ensures ∙ ap (λ (m : Numbered). slice_get m.pairs at) c.loop-at.invariant.same)
    in
    let other : (pair.left.0 == f) ≡ false = grind (arith, nat_tests, c.if-pair-turn.true) in
    record {
      solver = c.loop-at.invariant.solver;
      same = c.loop-at.invariant.same;
      decides =
          ap (λ ps. noting c.loop-at.noted (first_applying (map given ps)))
          (sym (pair_left_out f n.pairs at pair there other))
          ∙ c.loop-at.invariant.decides;
    }

pub returns-then-is_some-clause-tried : goal.returns-then-is_some-clause-tried
returns-then-is_some-clause-tried g c =
    let n = c.args.numbered.now in
    let turn = c.args.turn.now in
    let f = turn.symbol in
    let at = c.loop-at.at in
    let noted = c.loop-at.noted in
    let pair = c.in-Some.pair.now in
    let attempt = c.in-Some-2.attempt in
    let mine = pairs_from f n.pairs in
    let given = from_target turn.raised turn.arity (by_numbers n.polys turn.values.now) mine in
    let rest = first_applying (map given (pairs_from f (drop (at + 1) n.pairs))) in
    let whole = first_serving turn.raised turn.arity (by_numbers n.polys turn.values.now) mine in
    let there : slice_get n.pairs at ≡ Some pair =
    sym (c.in-Some.ensures ∙ ap (λ (m : Numbered). slice_get m.pairs at) c.loop-at.invariant.same)
    in
    let own : (pair.left.0 == f) ≡ true = grind (arith, nat_tests, c.if-pair-turn.false) in
    let told : tried_number n.polys attempt ≡ given pair =
    subst (λ (o : Option (Attempt _)). IfSome o (λ t. tried_number n.polys t ≡ given pair))
    c.in-Some-2.is
    (subst (λ (m : Numbered). (p : Pair) → slice_get m.pairs at ≡ Some p →
    IfSome c.in_ok-attempt.field-0 (λ t. tried_number m.polys t ≡ from_target turn.raised turn.arity
    (by_numbers m.polys turn.values.now) (pairs_from f m.pairs) p)) c.loop-at.invariant.same
    c.in_ok-attempt.ensures.tried pair there) in
    let has : HasPoly n.polys attempt.made =
    subst (λ (o : Option (Attempt _)). IfSome o (λ t. HasPoly n.polys t.made)) c.in-Some-2.is
    (subst (λ (m : Numbered). IfSome c.in_ok-attempt.field-0 (λ t. HasPoly m.polys t.made))
    c.loop-at.invariant.same c.in_ok-attempt.ensures.made) in
    let opened : noting noted (made_or (by_number n.polys attempt.made) attempt.noted rest) ≡
    whole =
    ap (λ (t : Tried Body). noting noted (made_or t.made t.noted rest)) told
    ∙ ap (λ ps. noting noted (first_applying (map given ps)))
    (sym (pair_of_it f n.pairs at pair there own))
    ∙ c.loop-at.invariant.decides in
    let p = made_poly n.polys attempt.made has (sym c.is_some.ensures ∙ c.if-is_some.true) in
    first_some noted (by_number n.polys attempt.made) attempt.noted rest whole opened p.0 p.1

pub loop-at-preserved : goal.loop-at-preserved
loop-at-preserved g c =
    let n = c.args.numbered.now in
    let turn = c.args.turn.now in
    let f = turn.symbol in
    let at = c.loop-at.at in
    let noted = c.loop-at.noted in
    let pair = c.in-Some.pair.now in
    let attempt = c.in-Some-2.attempt in
    let mine = pairs_from f n.pairs in
    let given = from_target turn.raised turn.arity (by_numbers n.polys turn.values.now) mine in
    let rest = first_applying (map given (pairs_from f (drop (at + 1) n.pairs))) in
    let whole = first_serving turn.raised turn.arity (by_numbers n.polys turn.values.now) mine in
    let there : slice_get n.pairs at ≡ Some pair =
    sym (c.in-Some.ensures ∙ ap (λ (m : Numbered). slice_get m.pairs at) c.loop-at.invariant.same)
    in
    let own : (pair.left.0 == f) ≡ true = grind (arith, nat_tests, c.if-pair-turn.false) in
    let told : tried_number n.polys attempt ≡ given pair =
    subst (λ (o : Option (Attempt _)). IfSome o (λ t. tried_number n.polys t ≡ given pair))
    c.in-Some-2.is
    (subst (λ (m : Numbered). (p : Pair) → slice_get m.pairs at ≡ Some p →
    IfSome c.in_ok-attempt.field-0 (λ t. tried_number m.polys t ≡ from_target turn.raised turn.arity
    (by_numbers m.polys turn.values.now) (pairs_from f m.pairs) p)) c.loop-at.invariant.same
    c.in_ok-attempt.ensures.tried pair there) in
    let opened : noting noted (made_or (by_number n.polys attempt.made) attempt.noted rest) ≡
    whole =
    ap (λ (t : Tried Body). noting noted (made_or t.made t.noted rest)) told
    ∙ ap (λ ps. noting noted (first_applying (map given ps)))
    (sym (pair_of_it f n.pairs at pair there own))
    ∙ c.loop-at.invariant.decides in
    record {
      solver = c.from_target.ensures.solver;
      same = c.from_target.ensures.same ∙ c.loop-at.invariant.same;
      decides = first_none noted (by_number n.polys attempt.made) attempt.noted rest whole opened
          (no_number n.polys attempt.made (sym c.is_some.ensures ∙ c.if-is_some.false));
    }
