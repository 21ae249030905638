-- Without an order nothing is made; with one, what comes of the choices.
use Rattle.std.proofs.Common.{◌≡◌, ◌∙◌, ap, sym, subst, List, Some, None, ℕ, take}
use Rattle.std.specs.Option.{IfSome, option_map}
use Rattle.rx_anchors.specs.Choices.{lists_in, products}
use Rattle.rx_pairs.specs.declared.pair.Pair.{Pair}
use Rattle.rx_rank.specs.Answers.{IsFirstFit, pairs_at, still_open}
use Rattle.rx_rank.specs.Choices.{all_choices}
use Rattle.rx_rank.specs.Ranking.{first_fit}
use Rattle.rx_rank.specs.Tries.{noting}
use Rattle.rx_rank.specs.declared.fitting.Fit.{Fit}
use Rattle.rx_rank.proofs.Choosing.{ordered}
use Rattle.rx_rank.proofs.TryLaws.{noted_alone}
use Rattle.rx_rank.proofs.partition.fit_in_order.Goals as goal

pub returns-in_default-clause-tried : goal.returns-in_default-clause-tried
returns-in_default-clause-tried g c =
    let a = c.args in
    sym (noted_alone None a.all.noted)
    ∙ ap (λ o. noting a.all.noted (first_fit a.most a.infos.now (pairs_at a.pairs.now) a.anchors.now
    a.raisable.now (lists_in a.all.lists.items) o)) (sym (ap (option_map (λ v. v.items)) c.in_default.is))

pub returns-clause-tried : goal.returns-clause-tried
returns-clause-tried g c =
    let a = c.args in
    let pairs = pairs_at a.pairs.now in
    let lists = lists_in a.all.lists.items in
    let view : Fit → List Pair = λ fit. still_open pairs fit.falls.items in
    (λ j. record {
      made = option_map view (c.noted_before.ensures.made j);
      noted = c.noted_before.ensures.noted j;
    })
    ∙ ap (noting a.all.noted) (c.in_ok-fit.ensures.tried ∙ (λ j. first_fit a.most a.infos.now pairs
    a.anchors.now a.raisable.now (lists_in (c.as_slice-lists.ensures.value j))
    (Some (c.as_slice-others.ensures.value j))))
    ∙ ap (λ o. noting a.all.noted (first_fit a.most a.infos.now pairs a.anchors.now
    a.raisable.now lists o))
    (sym (ap (option_map (λ v. v.items)) c.in-Some.is))

pub returns-clause-fit : goal.returns-clause-fit
returns-clause-fit g c =
    let a = c.args in
    let pairs = pairs_at a.pairs.now in
    let choices = all_choices a.raisable.now
    (take a.most (products (lists_in a.all.lists.items))) in
    let first = subst (λ ls. IfSome c.in_ok-fit.fit.made (IsFirstFit a.infos.now pairs
    a.anchors.now c.as_slice-others.result.now
    (all_choices a.raisable.now (take a.most (products (lists_in ls))))))
    c.as_slice-lists.ensures.value c.in_ok-fit.ensures.fit in
    let in_order = subst (λ fs. IfSome c.in_ok-fit.fit.made (IsFirstFit a.infos.now pairs
    a.anchors.now fs choices)) c.as_slice-others.ensures.value first in
    subst (λ m. IfSome m (λ fit. (fs : List ℕ) ×
    (option_map (λ v. v.items) a.order ≡ Some fs) ×
    IsFirstFit a.infos.now pairs a.anchors.now fs choices fit)) (sym c.noted_before.ensures.made)
    (ordered a.infos.now pairs a.anchors.now c.in-Some.order.items choices
    (option_map (λ v. v.items) a.order) c.in_ok-fit.fit.made
    (ap (option_map (λ v. v.items)) c.in-Some.is) in_order)
