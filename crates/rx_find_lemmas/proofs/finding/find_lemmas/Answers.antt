-- The lemmas are those whose steps apply, unless something passes the limits.
use Rattle.std.proofs.Common.{map}
use Rattle.std.proofs.lemmas.Result.{err_from_is_err_and}
use Rattle.rx_lemma.specs.Lemmas.{found_as}
use Rattle.rx_find_lemmas.proofs.Trying.{all_lemmas, no_lemmas, none_made}
use Rattle.rx_find_lemmas.proofs.finding.find_lemmas.Goals as goal

pub returns-in_err-all-clause-answer : goal.returns-in_err-all-clause-answer
returns-in_err-all-clause-answer g c =
    let p = err_from_is_err_and c.from_residual.result c.from_residual.ensures.1 in
    rw (p.1, p.2)
    (λ h. none_made c.args.rules.now c.args.goal.now (c.in_err-all.ensures.answer h))

pub returns-in-Ok-clause-answer : goal.returns-in-Ok-clause-answer
returns-in-Ok-clause-answer g c = λ large.
    no_lemmas c.args.rules.now c.args.goal.now (map found_as c.in_ok-all.all) c.in-Ok.found
    c.in_ok-all.ensures.answer c.in-Ok.ensures.tried c.if-try_each.true

pub returns-in-Ok-2-clause-answer : goal.returns-in-Ok-2-clause-answer
returns-in-Ok-2-clause-answer g c =
    all_lemmas c.args.rules.now c.args.goal.now (map found_as c.in_ok-all.all) c.in-Ok.found
    c.in_ok-all.ensures.answer c.in-Ok.ensures.tried c.if-try_each.false
