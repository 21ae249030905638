-- What becomes of the pair is what its fall says.
use Rattle.std.proofs.Common.{◌∙◌, ◌++◌, ◌∷◌, [], ap, append-nil, set, sym, Some}
use Rattle.rx_find_ranks.specs.Closing.{close_all, closing, fallen, left_open}
use Rattle.rx_find_ranks.specs.declared.open_pair.OpenPair.{OpenPair}
use Rattle.rx_find_ranks.proofs.closing.close_one.Goals as goal

pub returns-in_ok-push-in-None-clause-staying : goal.returns-in_ok-push-in-None-clause-staying
returns-in_ok-push-in-None-clause-staying c =
    let a = c.args in
    c.in_ok-push-in-None.ensures.items
    ∙ ap (λ o. a.left.now.items ++ o ∷ []) c.in_ok-with_certs-in-None.ensures
    ∙ ap (λ f. a.left.now.items ++ left_open (((a.entry, a.held), f) ∷ [])) (sym c.in-None.is)

pub returns-in_ok-push-in-None-clause-leaving : goal.returns-in_ok-push-in-None-clause-leaving
returns-in_ok-push-in-None-clause-leaving c =
    let a = c.args in
    ap (λ f. close_all a.column a.closed.now.items (fallen (((a.entry, a.held), f) ∷ [])))
    (sym c.in-None.is)

pub returns-in_ok-with_certs-in-Some-clause-staying :
    goal.returns-in_ok-with_certs-in-Some-clause-staying
returns-in_ok-with_certs-in-Some-clause-staying c =
    let a = c.args in
    sym (append-nil a.left.now.items)
    ∙ ap (λ f. a.left.now.items ++ left_open (((a.entry, a.held), f) ∷ [])) (sym c.in-Some.is)

pub returns-in_ok-with_certs-in-Some-clause-leaving :
    goal.returns-in_ok-with_certs-in-Some-clause-leaving
returns-in_ok-with_certs-in-Some-clause-leaving c =
    let a = c.args in
    c.close_entry.ensures
    ∙ ap (λ (o : OpenPair). set a.closed.now.items o.number (Some (closing a.column o)))
    c.in_ok-with_certs-in-Some.ensures
    ∙ ap (λ f. close_all a.column a.closed.now.items (fallen (((a.entry, a.held), f) ∷ [])))
    (sym c.in-Some.is)
