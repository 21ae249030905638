-- Without an entry the fit stays, and otherwise the first fit choice of the component is joined to
-- it.
use Rattle.std.proofs.Common.{◌≡◌, ◌∙◌, sym, length}
use Rattle.std.proofs.lemmas.Result.{IfOk-weaker}
use Rattle.rx_find_ranks.proofs.Joining.{more_empty, one_joined, open_count}
use Rattle.rx_find_ranks.specs.Tables.{pairs_open}
use Rattle.rx_find_ranks.proofs.components.fit_one_more.Goals as goal

pub returns-then-group-eq0-clause-more : goal.returns-then-group-eq0-clause-more
returns-then-group-eq0-clause-more g c =
    more_empty c.args.problem.now.kind c.args.problem.now.rules.now c.args.problem.now.hypotheses.now c.args.group.now.names.now c.args.group.now.name
    c.args.before
    c.args.group.now.entries.now c.if-group-eq0.true

pub returns-clause-more : goal.returns-clause-more
returns-clause-more g c =
    let pairs = pairs_open c.args.group.now.entries.now in
    let some : length pairs ≡ 0 → ⊥ = λ none.
    c.if-group-eq0.false (sym (open_count c.args.group.now.entries.now) ∙ none) in
    IfOk-weaker c.join_next.result _ _
    (λ t h. one_joined c.args.problem.now.kind c.args.problem.now.rules.now c.args.problem.now.hypotheses.now c.args.group.now.names.now
    c.args.group.now.name pairs
    c.args.before c.in_ok-tried.tried t some c.in_ok-tried.ensures.tried c.in_ok-tried.ensures.fit
    h) c.join_next.ensures
