-- Where the variable is replaced, what the certificate inside finds is what is found.
use Rattle.std.proofs.Common.{rules, sym, ◌≡◌, ◌∙◌, false}
use Rattle.rx_poly.specs.Terms.{is_zero}
use Rattle.rx_cert.specs.Elimination.{zero_polynomial}
use Rattle.rx_cert.specs.Examination.{examined}
use Rattle.rx_cert.proofs.FindingLaws.{solve_found, division_found}
use Rattle.rx_cert.proofs.examination.+examination.Goals as goal

pub examine_solve-returns-clause-large : goal.examine_solve-returns-clause-large
examine_solve-returns-clause-large t c =
    let found = solve_found c.args.var (zero_polynomial c.args.rows.now c.args.first c.args.second)
    c.in-Some.poly.now c.in-Some-2.value c.as_slice.result.now
    c.args.rows.now c.in_ok-changed.changed.items (examined c.args.rest.now)
    (sym c.in-Some.ensures) (sym c.in_ok-value.ensures.forms.0 ∙ c.in-Some-2.is)
    c.in_ok-value.ensures.forms.1 c.as_slice.ensures c.in_ok-changed.ensures.forms.1
    c.in_ok-changed.ensures.forms.0 in
    rw (found, ← c.get.ensures) c.examine.ensures.large

pub examine_division-returns-clause-answer : goal.examine_division-returns-clause-answer
examine_division-returns-clause-answer t c =
    let nonzero : is_zero c.args.den.now ≡ false = search rules in
    let found = division_found c.args.num.now c.args.den.now (examined c.args.pos.now)
    (examined c.args.neg.now) c.args.rows.now.items c.in_ok-examine_with_all.field-0
    nonzero c.in_ok-division.ensures.forms.0 c.in_ok-division.ensures.forms.1
    c.in_ok-above.ensures.forms.0 c.in_ok-above.ensures.forms.1 c.if-not-branch.false
    c.in_ok-examine_with_all.ensures.answer c.in_ok-below.ensures.forms.0
    c.in_ok-below.ensures.forms.1 c.in_ok-examine_with_all.ensures.kept in
    rw found c.examine_with_all-2.ensures.answer

pub examine_division-returns-clause-large : goal.examine_division-returns-clause-large
examine_division-returns-clause-large t c =
    let nonzero : is_zero c.args.den.now ≡ false = search rules in
    let found = division_found c.args.num.now c.args.den.now (examined c.args.pos.now)
    (examined c.args.neg.now) c.args.rows.now.items c.in_ok-examine_with_all.field-0
    nonzero c.in_ok-division.ensures.forms.0 c.in_ok-division.ensures.forms.1
    c.in_ok-above.ensures.forms.0 c.in_ok-above.ensures.forms.1 c.if-not-branch.false
    c.in_ok-examine_with_all.ensures.answer c.in_ok-below.ensures.forms.0
    c.in_ok-below.ensures.forms.1 c.in_ok-examine_with_all.ensures.kept in
    rw found c.examine_with_all-2.ensures.large
