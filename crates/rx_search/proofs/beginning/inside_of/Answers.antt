-- The set has the domains.
use Rattle.std.proofs.Common.{◌≡◌, ◌∙◌, ap}
use Rattle.std.proofs.lemmas.Result.{IfOk-weaker}
use Rattle.rx_domain.specs.Setting.{with_domains}
use Rattle.rx_search.specs.Begun.{IsInside}
use Rattle.rx_search.specs.declared.beginning.Inside.{Inside}
use Rattle.rx_search.proofs.BegunLaws.{inside_is}
use Rattle.rx_search.proofs.beginning.inside_of.Goals as goal

pub returns-in-Ok-clause-inside : goal.returns-in-Ok-clause-inside
returns-in-Ok-clause-inside c =
    IfOk-weaker c.listed_inside.result _ (IsInside c.args.rules.now c.args.goal.now)
    (λ inside same. inside_is c.args.kind c.args.rules.now c.args.goal.now c.args.domains
    c.in-Ok.set inside
    (c.in-Ok.ensures ∙ ap (with_domains c.args.rules.now) c.as_slice.ensures) same c.requires)
    c.listed_inside.ensures

pub returns-in-Ok-clause-kind : goal.returns-in-Ok-clause-kind
returns-in-Ok-clause-kind c =
    IfOk-weaker c.listed_inside.result _ (λ (inside : Inside). inside.kind ≡ c.args.kind)
    (λ inside same. ap (λ (i : Inside). i.kind) same) c.listed_inside.ensures

pub returns-in-Ok-clause-domains : goal.returns-in-Ok-clause-domains
returns-in-Ok-clause-domains c =
    IfOk-weaker c.listed_inside.result _ (λ (inside : Inside). inside.domains ≡ c.args.domains)
    (λ inside same. ap (λ (i : Inside). i.domains) same) c.listed_inside.ensures
