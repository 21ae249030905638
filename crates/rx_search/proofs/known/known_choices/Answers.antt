-- What the memo has of the goal is right, and stays so.
use Rattle.std.proofs.Common.{◌≡◌, ◌∙◌, subst, sym}
use Rattle.rx_memo.specs.Kept.{IsKept}
use Rattle.rx_term.specs.declared.rule.Equation.{Equation}
use Rattle.rx_search.specs.Known.{IsRight}
use Rattle.rx_search.proofs.Finding.{kept_right}
use Rattle.rx_search.proofs.known.known_choices.Goals as goal

pub returns-in-Some-clause-right : goal.returns-in-Some-clause-right
returns-in-Some-clause-right g c =
    let rules = c.args.rules.now in
    let found = c.in-Some.known.now in
    subst (IsRight rules c.args.goal) (sym c.in_ok-try_clone.ensures)
    (c.requires.known.all c.args.goal found
    (subst (λ (e : Equation). IsKept c.args.memo.now e found) c.get.ensures c.in-Some.ensures))

pub returns-in_err-keep-clause-known : goal.returns-in_err-keep-clause-known
returns-in_err-keep-clause-known g c =
    let rules = c.args.rules.now in
    let kept = c.in_ok-try_clone-2.field-0 in
    let same : c.args.goal ≡ c.goal.inside.inner.value = cc in
    let right = subst (IsRight rules c.args.goal)
    (sym (c.in_ok-try_clone-2.ensures ∙ c.in_ok-known.ensures)) c.in_ok-find_alone.ensures.right in
    kept_right rules c.args.memo.now c.keep.new.self c.goal.inside.inner.value kept
    c.requires.known (subst (λ (e : Equation). IsRight rules e kept) same right) c.keep.ensures.only

pub returns-clause-known : goal.returns-clause-known
returns-clause-known g c =
    let rules = c.args.rules.now in
    let kept = c.in_ok-try_clone-2.field-0 in
    let same : c.args.goal ≡ c.goal.inside.inner.value = cc in
    let right = subst (IsRight rules c.args.goal)
    (sym (c.in_ok-try_clone-2.ensures ∙ c.in_ok-known.ensures)) c.in_ok-find_alone.ensures.right in
    kept_right rules c.args.memo.now c.keep.new.self c.goal.inside.inner.value kept
    c.requires.known (subst (λ (e : Equation). IsRight rules e kept) same right) c.keep.ensures.only
