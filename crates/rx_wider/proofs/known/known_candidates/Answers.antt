-- What the memo has of the goal is right, and stays so.
use Rattle.std.proofs.Common.{◌≡◌, ◌∙◌, ap, subst}
use Rattle.rx_memo.specs.Kept.{IsKept}
use Rattle.rx_term.specs.declared.rule.Equation.{Equation}
use Rattle.rx_wider.specs.Menu.{candidates}
use Rattle.rx_wider.proofs.PlanLaws.{one_known}
use Rattle.rx_wider.proofs.known.known_candidates.Goals as goal

pub returns-in-Some-clause-found : goal.returns-in-Some-clause-found
returns-in-Some-clause-found g c =
    let found = c.in-Some.known.now in
    c.in_ok-try_clone.ensures
    ∙ c.requires.known.all c.args.goal found
    (subst (λ (e : Equation). IsKept c.args.memo.now e found) c.get.ensures c.in-Some.ensures)

pub returns-in_err-keep-clause-known : goal.returns-in_err-keep-clause-known
returns-in_err-keep-clause-known g c =
    let rules = c.args.rules.now in
    let descend = g.E.Explores.found (g.E.Explores.world c.args.explorer.now) in
    let same : c.args.goal ≡ c.goal.inside.inner.value = cc in
    one_known rules descend c.args.memo.now c.keep.new.self c.goal.inside.inner.value
    c.in_ok-try_clone-2.field-0 c.requires.known
    (c.in_ok-try_clone-2.ensures ∙ c.in_ok-known.ensures ∙ c.in_ok-found.ensures.found
    ∙ ap (candidates rules descend) (c.get-2.ensures ∙ same)) c.keep.ensures.only

pub returns-clause-known : goal.returns-clause-known
returns-clause-known g c =
    let rules = c.args.rules.now in
    let descend = g.E.Explores.found (g.E.Explores.world c.args.explorer.now) in
    let same : c.args.goal ≡ c.goal.inside.inner.value = cc in
    one_known rules descend c.args.memo.now c.keep.new.self c.goal.inside.inner.value
    c.in_ok-try_clone-2.field-0 c.requires.known
    (c.in_ok-try_clone-2.ensures ∙ c.in_ok-known.ensures ∙ c.in_ok-found.ensures.found
    ∙ ap (candidates rules descend) (c.get-2.ensures ∙ same)) c.keep.ensures.only
