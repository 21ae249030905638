-- The rules first, then the hypotheses, then what is left of the certificates.
use Rattle.std.proofs.Common.{◌∙◌}
use Rattle.std.proofs.lemmas.Result.{err_from_is_err_and}
use Rattle.rx_pairs.proofs.DescendingLaws.{both_done, more_left, none_left, second_refused}
use Rattle.rx_pairs.proofs.descending.both_lower.Goals as goal

pub returns-in_err-first : goal.returns-in_err-first
returns-in_err-first c =
    let p = err_from_is_err_and c.from_residual.result c.from_residual.ensures.1 in
    rw (p.1, p.2) (c.in_err-first.ensures.decides c.args.hypotheses.now)

pub returns-in_err-count : goal.returns-in_err-count
returns-in_err-count c =
    let p = err_from_is_err_and c.from_residual-in_err-count.result
    c.from_residual-in_err-count.ensures.1 in
    rw (p.1, p.2)
    (second_refused c.args.rules.now c.args.witness c.args.all.now c.args.hypotheses.now
    c.in_ok-first.first c.in_ok-first.ensures.decides
    c.in_err-count.field-0.0 c.in_err-count.ensures.decides)

pub returns-then-count-witness : goal.returns-then-count-witness
returns-then-count-witness c =
    both_done c.args.rules.now c.args.witness c.args.all.now c.args.hypotheses.now
    c.in_ok-first.first c.in_ok-first.ensures.decides
    c.in_ok-count.count c.in_ok-count.ensures.decides
    ∙ more_left c.args.witness c.in_ok-count.count c.if-count-witness.true

pub returns : goal.returns
returns c =
    both_done c.args.rules.now c.args.witness c.args.all.now c.args.hypotheses.now
    c.in_ok-first.first c.in_ok-first.ensures.decides
    c.in_ok-count.count c.in_ok-count.ensures.decides
    ∙ none_left c.args.witness c.in_ok-count.count c.if-count-witness.false
