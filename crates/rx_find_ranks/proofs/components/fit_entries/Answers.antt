-- The pairs that are lent are those of the entries.
use Rattle.std.proofs.Common.{◌≡◌, ◌∙◌, ap, subst, List}
use Rattle.std.specs.Option.{IfSome}
use Rattle.std.specs.Result.{IfOk}
use Rattle.rx_pairs.specs.declared.pair.Pair.{Pair}
use Rattle.rx_rank.specs.Answers.{IsComponentFit, pairs_at, still_open, tried_as}
use Rattle.rx_rank.specs.Ranking.{component}
use Rattle.rx_find_ranks.specs.Tables.{pairs_open}
use Rattle.rx_term.specs.declared.rule_set.RuleParts.{RuleParts}
use Rattle.rx_find_ranks.proofs.components.fit_entries.Goals as goal

pub returns-clause-tried : goal.returns-clause-tried
returns-clause-tried g c =
    let problem = c.args.problem.now in
    let group = c.args.group.now in
    let parts = c.parts.result.now in
    subst (λ (rules : RuleParts). IfOk c.fit_component.result (λ t.
    tried_as (λ fit. still_open (pairs_open group.entries.now) fit.falls.items) t ≡
    component problem.kind rules problem.hypotheses.now group.names.now group.name
    (pairs_open group.entries.now))) c.parts.ensures.parts
    (subst (λ (ps : List Pair). IfOk c.fit_component.result (λ t.
    tried_as (λ fit. still_open ps fit.falls.items) t ≡
    component problem.kind parts problem.hypotheses.now group.names.now group.name ps))
    (ap pairs_at c.as_slice.ensures.value ∙ c.in_ok-lent.ensures)
    c.fit_component.ensures.tried)

pub returns-clause-fit : goal.returns-clause-fit
returns-clause-fit g c =
    let problem = c.args.problem.now in
    let group = c.args.group.now in
    let parts = c.parts.result.now in
    subst (λ (rules : RuleParts). IfOk c.fit_component.result (λ t. IfSome t.made
    (IsComponentFit problem.kind rules problem.hypotheses.now group.names.now group.name
    (pairs_open group.entries.now)))) c.parts.ensures.parts
    (subst (λ (ps : List Pair). IfOk c.fit_component.result (λ t. IfSome t.made
    (IsComponentFit problem.kind parts problem.hypotheses.now group.names.now group.name ps)))
    (ap pairs_at c.as_slice.ensures.value ∙ c.in_ok-lent.ensures)
    c.fit_component.ensures.fit)
