-- The pairs that are taken out of the memo are those that are given.
use Rattle.std.proofs.Common.{◌≡◌, ◌∙◌, List, Some, ap, subst, take}
use Rattle.std.specs.Option.{IfSome}
use Rattle.rx_pairs.specs.declared.pair.Pair.{Pair}
use Rattle.rx_anchors.specs.Choices.{lists_in, products}
use Rattle.rx_rank.specs.Answers.{IsFirstFit, still_open, tried_as}
use Rattle.rx_rank.specs.Choices.{all_choices}
use Rattle.rx_rank.specs.Numbers.{Numbered}
use Rattle.rx_rank.specs.Ranking.{first_fit}
use Rattle.rx_rank.proofs.partition.first_fit_with.Goals as goal

pub returns-clause-tried : goal.returns-clause-tried
returns-clause-tried g c =
    let a = c.args in
    subst (λ (ps : List Pair). tried_as (λ fit. still_open ps fit.falls.items) c.in_ok-fit.fit ≡
    first_fit a.most a.infos.now ps a.anchors.now a.raisable.now (lists_in a.lists.now)
    (Some a.order.now))
    (ap (λ (n : Numbered). n.pairs) c.new-numbered.ensures ∙ c.in_ok-take.ensures)
    c.in_ok-fit.ensures.tried

pub returns-clause-fit : goal.returns-clause-fit
returns-clause-fit g c =
    let a = c.args in
    subst (λ (ps : List Pair). IfSome c.in_ok-fit.fit.made
    (IsFirstFit a.infos.now ps a.anchors.now a.order.now
    (all_choices a.raisable.now (take a.most (products (lists_in a.lists.now))))))
    (ap (λ (n : Numbered). n.pairs) c.new-numbered.ensures ∙ c.in_ok-take.ensures)
    c.in_ok-fit.ensures.fit
