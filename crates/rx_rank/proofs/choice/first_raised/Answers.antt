-- What comes of the choice at hand is that of one of them.
use Rattle.std.proofs.Common.{◌≡◌, ◌∙◌, ◌<◌, ◌≤◌, ap, sym, subst, refl, arith, IfSome, List, None, Some, map, slice_get, take}
use Rattle.std.specs.List.{flat_map}
use Rattle.std.specs.Option.{option_map}
use Rattle.rx_poly.specs.declared.body.Body.{Body}
use Rattle.rx_pairs.specs.declared.pair.Pair.{Pair}
use Rattle.rx_solve.specs.Attempts.{Tried, first_applying}
use Rattle.rx_anchors.specs.Choices.{lists_in, products}
use Rattle.rx_anchors.specs.Values.{polys_at}
use Rattle.rx_rank.specs.Answers.{IsFirstFit, still_open, tried_as}
use Rattle.rx_rank.specs.Choices.{choosing, raised_choices}
use Rattle.rx_rank.specs.Numbers.{Numbered}
use Rattle.rx_rank.specs.declared.fitting.Fit.{Fit}
use Rattle.rx_rank.proofs.Choosing.{among_each, choice_fits, first_of_each, fit_among_more, later_choices, no_choice, taken_past, taken_place}
use Rattle.rx_rank.proofs.choice.first_raised.Goals as goal

pub loop-at-init : goal.loop-at-init
loop-at-init g c =
    let a = c.args in
    let q = c.args.problem.now in
    let given = c.args.numbered.now.pairs in
    let symbols = q.raisable.now in
    let all = take a.most (products (lists_in q.lists.now)) in
    let try_it = choosing q.infos.now given q.anchors.now q.order.now in
    let each : List Body → Tried (List Pair) =
    λ polys. first_applying (map try_it (raised_choices symbols polys)) in
    let whole = first_applying (map try_it (flat_map (raised_choices symbols) all)) in
    record {
      solver = c.requires.solver;
      same = refl;
      decides = first_of_each try_it (raised_choices symbols) all;
    }

pub returns-in-None-clause-tried : goal.returns-in-None-clause-tried
returns-in-None-clause-tried g c =
    let a = c.args in
    let q = c.args.problem.now in
    let given = c.args.numbered.now.pairs in
    let symbols = q.raisable.now in
    let all = take a.most (products (lists_in q.lists.now)) in
    let try_it = choosing q.infos.now given q.anchors.now q.order.now in
    let each : List Body → Tried (List Pair) =
    λ polys. first_applying (map try_it (raised_choices symbols polys)) in
    let whole = first_applying (map try_it (flat_map (raised_choices symbols) all)) in
    let at = c.loop-at.at in
    let below : at < a.most = omega (arith, c.loop-at-test.true) in
    let none : slice_get all at ≡ None =
    taken_place a.most (products (lists_in q.lists.now)) at below
    ∙ sym (sym (ap (option_map (λ v. polys_at v.items)) c.in-None.is) ∙ c.in_ok-choice.ensures) in
    no_choice each all at c.loop-at.noted whole c.loop-at.invariant.decides none

pub returns-clause-tried : goal.returns-clause-tried
returns-clause-tried g c =
    let a = c.args in
    let q = c.args.problem.now in
    let given = c.args.numbered.now.pairs in
    let symbols = q.raisable.now in
    let all = take a.most (products (lists_in q.lists.now)) in
    let try_it = choosing q.infos.now given q.anchors.now q.order.now in
    let each : List Body → Tried (List Pair) =
    λ polys. first_applying (map try_it (raised_choices symbols polys)) in
    let whole = first_applying (map try_it (flat_map (raised_choices symbols) all)) in
    let at = c.loop-at.at in
    let past : a.most ≤ at = omega (arith, c.loop-at-test.false) in
    no_choice each all at c.loop-at.noted whole c.loop-at.invariant.decides
    (taken_past a.most (products (lists_in q.lists.now)) at past)

pub returns-then-is_some-clause-fit : goal.returns-then-is_some-clause-fit
returns-then-is_some-clause-fit g c =
    let a = c.args in
    let q = c.args.problem.now in
    let given = c.args.numbered.now.pairs in
    let symbols = q.raisable.now in
    let all = take a.most (products (lists_in q.lists.now)) in
    let at = c.loop-at.at in
    let made = c.in_ok-attempt.attempt.made in
    let choice = polys_at c.in-Some.choice.items in
    let below : at < a.most = omega (arith, c.loop-at-test.true) in
    let there : slice_get all at ≡ Some choice =
    taken_place a.most (products (lists_in q.lists.now)) at below
    ∙ sym (sym (ap (option_map (λ v. polys_at v.items)) c.in-Some.is) ∙ c.in_ok-choice.ensures) in
    let here = subst (λ qs. IfSome made (IsFirstFit q.infos.now qs q.anchors.now q.order.now
    (raised_choices symbols (polys_at c.as_slice-chosen.result.now)))) (c.number_after.ensures ∙
    c.loop-at.invariant.same)
    c.in_ok-attempt.ensures.fit in
    let first = subst (λ ps. IfSome made (IsFirstFit q.infos.now given q.anchors.now
    q.order.now (raised_choices symbols (polys_at ps)))) c.as_slice-chosen.ensures.value here in
    fit_among_more q.infos.now given q.anchors.now q.order.now (raised_choices symbols choice)
    (flat_map (raised_choices symbols) all) made
    (λ one among. among_each (raised_choices symbols) all at choice one there among) first

pub returns-then-is_some-clause-tried : goal.returns-then-is_some-clause-tried
returns-then-is_some-clause-tried g c =
    let a = c.args in
    let q = c.args.problem.now in
    let given = c.args.numbered.now.pairs in
    let symbols = q.raisable.now in
    let all = take a.most (products (lists_in q.lists.now)) in
    let try_it = choosing q.infos.now given q.anchors.now q.order.now in
    let each : List Body → Tried (List Pair) =
    λ polys. first_applying (map try_it (raised_choices symbols polys)) in
    let whole = first_applying (map try_it (flat_map (raised_choices symbols) all)) in
    let at = c.loop-at.at in
    let made = c.in_ok-attempt.attempt.made in
    let choice = polys_at c.in-Some.choice.items in
    let below : at < a.most = omega (arith, c.loop-at-test.true) in
    let there : slice_get all at ≡ Some choice =
    taken_place a.most (products (lists_in q.lists.now)) at below
    ∙ sym (sym (ap (option_map (λ v. polys_at v.items)) c.in-Some.is) ∙ c.in_ok-choice.ensures) in
    let view : Fit → List Pair = λ fit. still_open given fit.falls.items in
    let before = c.loop-at.noted in
    let more = c.in_ok-attempt.attempt.noted in
    let tried : record { made = option_map view made; noted = more } ≡ each choice =
    subst (λ ps. record { made = option_map view made; noted = more } ≡ each (polys_at ps))
    c.as_slice-chosen.ensures.value
    (subst (λ (qs : List Pair). tried_as (λ fit. still_open qs fit.falls.items)
    c.in_ok-attempt.attempt ≡ first_applying (map
    (choosing q.infos.now qs q.anchors.now q.order.now)
    (raised_choices symbols (polys_at c.as_slice-chosen.result.now)))) (c.number_after.ensures ∙
    c.loop-at.invariant.same)
    c.in_ok-attempt.ensures.tried) in
    choice_fits each all at before whole c.loop-at.invariant.decides choice there view made more
    tried (sym c.is_some.ensures ∙ c.if-is_some.true)

pub loop-at-preserved : goal.loop-at-preserved
loop-at-preserved g c =
    let a = c.args in
    let q = c.args.problem.now in
    let given = c.args.numbered.now.pairs in
    let symbols = q.raisable.now in
    let all = take a.most (products (lists_in q.lists.now)) in
    let try_it = choosing q.infos.now given q.anchors.now q.order.now in
    let each : List Body → Tried (List Pair) =
    λ polys. first_applying (map try_it (raised_choices symbols polys)) in
    let whole = first_applying (map try_it (flat_map (raised_choices symbols) all)) in
    let at = c.loop-at.at in
    let made = c.in_ok-attempt.attempt.made in
    let choice = polys_at c.in-Some.choice.items in
    let below : at < a.most = omega (arith, c.loop-at-test.true) in
    let there : slice_get all at ≡ Some choice =
    taken_place a.most (products (lists_in q.lists.now)) at below
    ∙ sym (sym (ap (option_map (λ v. polys_at v.items)) c.in-Some.is) ∙ c.in_ok-choice.ensures) in
    let view : Fit → List Pair = λ fit. still_open given fit.falls.items in
    let before = c.loop-at.noted in
    let more = c.in_ok-attempt.attempt.noted in
    let tried : record { made = option_map view made; noted = more } ≡ each choice =
    subst (λ ps. record { made = option_map view made; noted = more } ≡ each (polys_at ps))
    c.as_slice-chosen.ensures.value
    (subst (λ (qs : List Pair). tried_as (λ fit. still_open qs fit.falls.items)
    c.in_ok-attempt.attempt ≡ first_applying (map
    (choosing q.infos.now qs q.anchors.now q.order.now)
    (raised_choices symbols (polys_at c.as_slice-chosen.result.now)))) (c.number_after.ensures ∙
    c.loop-at.invariant.same)
    c.in_ok-attempt.ensures.tried) in
    record {
      solver = c.first_raised_of.ensures.solver;
      same = ap (λ (n : Numbered). n.pairs) c.first_raised_of.ensures.same ∙ c.number_after.ensures
          ∙ c.loop-at.invariant.same;
      decides = later_choices each all at before whole c.loop-at.invariant.decides choice there
          view made more tried (sym c.is_some.ensures ∙ c.if-is_some.false);
    }
