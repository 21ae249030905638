-- Where none falls nothing is made, and where one does those that don't stay open.
use Rattle.std.proofs.Common.{◌∙◌, ap, sym, subst}
use Rattle.std.specs.List.{AllZip, list_any}
use Rattle.std.specs.Option.{is_some}
use Rattle.rx_rank.specs.Answers.{IsDecided}
use Rattle.rx_rank.specs.Choices.{falls_by, is_beyond}
use Rattle.rx_rank.proofs.Walks.{none_falls, one_falls}
use Rattle.rx_rank.proofs.fitting.fit_falling.Goals as goal

pub returns-then-not-some_falls-clause-tried : goal.returns-then-not-some_falls-clause-tried
returns-then-not-some_falls-clause-tried g c =
    let pairs = c.args.pairs.now in
    let all = subst (λ vs. AllZip (IsDecided vs) pairs c.in_ok-falls.falls.certs.items)
    c.as_slice.ensures.value c.in_ok-falls.ensures.certs in
    let noted = c.in_ok-falls.ensures.noted ∙
    ap (λ vs. list_any (λ q. is_beyond (falls_by vs q)) pairs) c.as_slice.ensures.value in
    let none = sym (c.some_falls.ensures ∙ ap (list_any is_some) c.as_slice-2.ensures.value) ∙
    c.if-not-some_falls.true in
    none_falls c.args.values.items pairs c.in_ok-falls.falls.certs.items c.in_ok-falls.falls.noted
    all noted none

pub returns-clause-tried : goal.returns-clause-tried
returns-clause-tried g c =
    let pairs = c.args.pairs.now in
    let all = subst (λ vs. AllZip (IsDecided vs) pairs c.in_ok-falls.falls.certs.items)
    c.as_slice.ensures.value c.in_ok-falls.ensures.certs in
    let noted = c.in_ok-falls.ensures.noted ∙
    ap (λ vs. list_any (λ q. is_beyond (falls_by vs q)) pairs) c.as_slice.ensures.value in
    let some = sym (c.some_falls.ensures ∙ ap (list_any is_some) c.as_slice-2.ensures.value) ∙
    c.if-not-some_falls.false in
    one_falls c.args.values.items pairs c.in_ok-falls.falls.certs.items c.in_ok-falls.falls.noted
    all noted some
