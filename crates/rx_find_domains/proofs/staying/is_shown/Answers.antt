-- What is found of the one row.
use Rattle.std.proofs.Common.{subst}
use Rattle.rx_cert.specs.Findings.{Yes, No, Beyond}
use Rattle.rx_solve.specs.Shown.{IsAllShown}
use Rattle.rx_find_domains.proofs.StayingLaws.{said_alone}
use Rattle.rx_find_domains.proofs.staying.is_shown.Goals as goal

pub returns-in-Shown-clause-shown : goal.returns-in-Shown-clause-shown
returns-in-Shown-clause-shown g c =
    let answer = subst (IsAllShown c.args.given.now c.as_slice.result.now) c.in-Shown.is
    c.in_ok-show_all.ensures.answer in
    said_alone c.args.given.now c.as_slice.result.now c.args.row Yes c.as_slice.ensures answer.0

pub returns-in-NotShown-clause-shown : goal.returns-in-NotShown-clause-shown
returns-in-NotShown-clause-shown g c =
    said_alone c.args.given.now c.as_slice.result.now c.args.row No c.as_slice.ensures
    (subst (IsAllShown c.args.given.now c.as_slice.result.now) c.in-NotShown.is
    c.in_ok-show_all.ensures.answer)

pub returns-clause-shown : goal.returns-clause-shown
returns-clause-shown g c =
    said_alone c.args.given.now c.as_slice.result.now c.args.row Beyond c.as_slice.ensures
    (subst (IsAllShown c.args.given.now c.as_slice.result.now) c.in-TooLarge.is
    c.in_ok-show_all.ensures.answer)
