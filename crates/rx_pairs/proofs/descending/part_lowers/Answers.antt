-- The certificate decides.
use Rattle.std.proofs.Common.{◌≡◌, ◌∙◌, ap, Some, slice_get}
use Rattle.std.proofs.lemmas.Result.{err_from_is_err_and}
use Rattle.rx_cert.specs.Findings.{Beyond, No, Yes, said}
use Rattle.rx_term.proofs.Places.{at_some}
use Rattle.rx_pairs.specs.Lent.{lent}
use Rattle.rx_pairs.specs.Pairs.{pair_under}
use Rattle.rx_pairs.proofs.DescendingLaws.{one_turn}
use Rattle.rx_pairs.proofs.descending.part_lowers.Goals as goal

pub returns-in_err-pair-clause-decides : goal.returns-in_err-pair-clause-decides
returns-in_err-pair-clause-decides c = λ whole others.
    let p = err_from_is_err_and c.from_residual.result c.from_residual.ensures.1 in
    rw (p.1, p.2) tt

pub returns-in-Ok-true-clause-decides : goal.returns-in-Ok-true-clause-decides
returns-in-Ok-true-clause-decides c = λ whole others.
    let cert = c.in-Some.cert.now in
    let number = c.args.number in
    let certs = c.args.witness.certs.now in
    let there : slice_get certs number ≡ Some cert =
    at_some certs number cert cert c.in-Some.ensures.lookup.3.0 c.in-Some.ensures.lookup.1 in
    one_turn c.args.witness whole
    (pair_under c.args.rows.now (lent c.args.root) (lent c.args.part)) others number c.in_ok-pair.pair cert Yes
    there c.in_ok-pair.ensures (c.in-Ok-true.ensures.answer ∙ ap said c.in-Ok-true.field-0-test)

pub returns-in-Ok-false-clause-decides : goal.returns-in-Ok-false-clause-decides
returns-in-Ok-false-clause-decides c = λ whole others.
    let cert = c.in-Some.cert.now in
    let number = c.args.number in
    let certs = c.args.witness.certs.now in
    let there : slice_get certs number ≡ Some cert =
    at_some certs number cert cert c.in-Some.ensures.lookup.3.0 c.in-Some.ensures.lookup.1 in
    one_turn c.args.witness whole
    (pair_under c.args.rows.now (lent c.args.root) (lent c.args.part)) others number c.in_ok-pair.pair cert No
    there c.in_ok-pair.ensures (c.in-Ok-false.ensures.answer ∙ ap said c.in-Ok-false.field-0-test)

pub returns-in-Err-Large-clause-decides : goal.returns-in-Err-Large-clause-decides
returns-in-Err-Large-clause-decides c = λ whole others.
    let cert = c.in-Some.cert.now in
    let number = c.args.number in
    let certs = c.args.witness.certs.now in
    let there : slice_get certs number ≡ Some cert =
    at_some certs number cert cert c.in-Some.ensures.lookup.3.0 c.in-Some.ensures.lookup.1 in
    one_turn c.args.witness whole
    (pair_under c.args.rows.now (lent c.args.root) (lent c.args.part)) others number c.in_ok-pair.pair cert Beyond
    there c.in_ok-pair.ensures (c.in-Err-Large.ensures.large c.in-Err-Large.field-0-is)
