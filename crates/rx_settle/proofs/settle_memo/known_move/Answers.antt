-- What the memo has of the goal is right, and stays so.
use Rattle.std.proofs.Common.{◌∙◌, subst, sym}
use Rattle.rx_memo.specs.Kept.{IsKept}
use Rattle.rx_term.specs.declared.rule.Equation.{Equation}
use Rattle.rx_settle.specs.Known.{AreKnown, IsKnown}
use Rattle.rx_settle.proofs.KnownLaws.{still_known}
use Rattle.rx_settle.proofs.settle_memo.known_move.Goals as goal

pub returns-in-Some-clause-found : goal.returns-in-Some-clause-found
returns-in-Some-clause-found g c =
    let rules = c.args.rules.now in
    let found = c.in-Some.known.now in
    let right : AreKnown rules c.memo.inside.known =
    subst (AreKnown rules) (sym c.memo.view_is) c.requires.known in
    subst (IsKnown rules c.args.goal) (sym c.in_ok-try_clone.ensures)
    (right.all c.args.goal found
    (subst (λ (e : Equation). IsKept c.memo.inside.known e found) c.get.ensures c.in-Some.ensures))

pub returns-in_err-keep-clause-known : goal.returns-in_err-keep-clause-known
returns-in_err-keep-clause-known g c =
    still_known c.args.rules.now c.memo.inside.known c.keep.new.self c.args.goal
    c.goal.inside.inner.value c.in_ok-find.field-0 c.in_ok-try_clone-2.field-0
    (subst (AreKnown c.args.rules.now) (sym c.memo.view_is) c.requires.known)
    c.in_ok-find.ensures.known (cc) (c.in_ok-try_clone-2.ensures ∙ c.in_ok-known.ensures)
    c.keep.ensures.only

pub returns-clause-known : goal.returns-clause-known
returns-clause-known g c =
    still_known c.args.rules.now c.memo.inside.known c.keep.new.self c.args.goal
    c.goal.inside.inner.value c.in_ok-find.field-0 c.in_ok-try_clone-2.field-0
    (subst (AreKnown c.args.rules.now) (sym c.memo.view_is) c.requires.known)
    c.in_ok-find.ensures.known (cc) (c.in_ok-try_clone-2.ensures ∙ c.in_ok-known.ensures)
    c.keep.ensures.only
