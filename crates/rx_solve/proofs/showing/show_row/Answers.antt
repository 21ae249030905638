-- A plain row needs no certificate; another has the one that refutes its negation.
use Rattle.std.proofs.Common.{◌∙◌, Some, None, sym}
use Rattle.std.proofs.lemmas.List.{append-nil}
use Rattle.rx_solve.proofs.Proving.{certified}
use Rattle.rx_solve.proofs.showing.show_row.Goals as goal

pub returns-then-is_plain-clause-answer : goal.returns-then-is_plain-clause-answer
returns-then-is_plain-clause-answer g c = (
  None,
  (sym c.is_plain.ensures.plain ∙ c.if-is_plain.true, sym (append-nil c.args.certs.now)),
)

pub returns-clause-answer : goal.returns-clause-answer
returns-clause-answer g c = (
  Some c.in-Some.cert,
  (
    (
      sym c.is_plain.ensures.plain ∙ c.if-is_plain.false,
      certified c.args.given.now c.args.row.now c.args.asked.now c.in_ok-cert.field-0
          c.in-Some.cert c.requires.asked c.in-Some.is c.in_ok-cert.ensures.answer,
    ),
    c.in_ok-push.ensures.ok,
  ),
)
