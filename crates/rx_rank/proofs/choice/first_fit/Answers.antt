-- The plain choices come first, and where none is fit those with a raised symbol.
use Rattle.std.proofs.Common.{◌≡◌, ◌∙◌, ap, sym, subst, IfSome, List, [], map, take}
use Rattle.std.specs.List.{flat_map}
use Rattle.std.specs.Option.{option_map}
use Rattle.rx_pairs.specs.declared.pair.Pair.{Pair}
use Rattle.rx_solve.specs.Attempts.{first_applying}
use Rattle.rx_anchors.specs.Choices.{lists_in, products}
use Rattle.rx_rank.specs.Answers.{IsFirstFit, still_open, tried_as}
use Rattle.rx_rank.specs.Choices.{all_choices, choosing, plain_choice, raised_choices}
use Rattle.rx_rank.specs.declared.fitting.Fit.{Fit}
use Rattle.rx_rank.proofs.Choosing.{among_plain, among_raised, empty_list, fit_among_more, plain_alone, plain_fits, raised_decide}
use Rattle.rx_rank.proofs.choice.first_fit.Goals as goal

pub returns-then-is_some-clause-tried : goal.returns-then-is_some-clause-tried
returns-then-is_some-clause-tried g c =
    let a = c.args in
    let q = c.args.problem.now in
    let given = c.args.numbered.now.pairs in
    let all = take a.most (products (lists_in q.lists.now)) in
    plain_fits q.infos.now given q.anchors.now q.order.now q.raisable.now all
    (λ fit. still_open given fit.falls.items) c.in_ok-plain.plain.made
    c.in_ok-plain.plain.noted c.in_ok-plain.ensures.tried
    (sym c.is_some.ensures ∙ c.if-is_some.true)

pub returns-then-is_some-clause-fit : goal.returns-then-is_some-clause-fit
returns-then-is_some-clause-fit g c =
    let a = c.args in
    let q = c.args.problem.now in
    let given = c.args.numbered.now.pairs in
    let all = take a.most (products (lists_in q.lists.now)) in
    fit_among_more q.infos.now given q.anchors.now q.order.now (map plain_choice all)
    (all_choices q.raisable.now all) c.in_ok-plain.plain.made (among_plain q.raisable.now all)
    c.in_ok-plain.ensures.fit

pub returns-then-is_empty-clause-tried : goal.returns-then-is_empty-clause-tried
returns-then-is_empty-clause-tried g c =
    let a = c.args in
    let q = c.args.problem.now in
    let given = c.args.numbered.now.pairs in
    let all = take a.most (products (lists_in q.lists.now)) in
    let try_it = choosing q.infos.now given q.anchors.now q.order.now in
    let empty : q.raisable.now ≡ [] =
    empty_list q.raisable.now (sym c.is_empty.ensures ∙ c.if-is_empty.true) in
    c.in_ok-plain.ensures.tried
    ∙ plain_alone q.infos.now given q.anchors.now q.order.now all
    ∙ ap (λ symbols. first_applying (map try_it (all_choices symbols all))) (sym empty)

pub returns-then-is_empty-clause-fit : goal.returns-then-is_empty-clause-fit
returns-then-is_empty-clause-fit g c =
    let a = c.args in
    let q = c.args.problem.now in
    let given = c.args.numbered.now.pairs in
    let all = take a.most (products (lists_in q.lists.now)) in
    fit_among_more q.infos.now given q.anchors.now q.order.now (map plain_choice all)
    (all_choices q.raisable.now all) c.in_ok-plain.plain.made (among_plain q.raisable.now all)
    c.in_ok-plain.ensures.fit

pub returns-clause-tried : goal.returns-clause-tried
returns-clause-tried g c =
    let a = c.args in
    let q = c.args.problem.now in
    let given = c.args.numbered.now.pairs in
    let all = take a.most (products (lists_in q.lists.now)) in
    let view : Fit → List Pair = λ fit. still_open given fit.falls.items in
    let raised = c.in_ok-raised.raised in
    let tried : record { made = option_map view raised.made; noted = raised.noted } ≡
    first_applying (map (choosing q.infos.now given q.anchors.now q.order.now)
    (flat_map (raised_choices q.raisable.now) all)) =
    subst (λ (qs : List Pair). tried_as (λ fit. still_open qs fit.falls.items) raised ≡
    first_applying (map (choosing q.infos.now qs q.anchors.now q.order.now)
    (flat_map (raised_choices q.raisable.now) all))) c.first_plain.ensures.pairs
    c.in_ok-raised.ensures.tried in
    (λ j. record {
      made = option_map view (c.noted_before.ensures.made j);
      noted = c.noted_before.ensures.noted j;
    })
    ∙ raised_decide q.infos.now given q.anchors.now q.order.now q.raisable.now all view
    c.in_ok-plain.plain.made c.in_ok-plain.plain.noted c.in_ok-plain.ensures.tried raised.made
    raised.noted (sym c.is_some.ensures ∙ c.if-is_some.false) tried

pub returns-clause-fit : goal.returns-clause-fit
returns-clause-fit g c =
    let a = c.args in
    let q = c.args.problem.now in
    let given = c.args.numbered.now.pairs in
    let all = take a.most (products (lists_in q.lists.now)) in
    let raised = c.in_ok-raised.raised in
    let first = subst (λ (qs : List Pair). IfSome raised.made (IsFirstFit q.infos.now qs
    q.anchors.now q.order.now (flat_map (raised_choices q.raisable.now) all)))
    c.first_plain.ensures.pairs c.in_ok-raised.ensures.fit in
    subst (λ m. IfSome m (IsFirstFit q.infos.now given q.anchors.now q.order.now
    (all_choices q.raisable.now all))) (sym c.noted_before.ensures.made)
    (fit_among_more q.infos.now given q.anchors.now q.order.now
    (flat_map (raised_choices q.raisable.now) all) (all_choices q.raisable.now all) raised.made
    (among_raised q.raisable.now all) first)
