-- A row whose negation is refuted is shown, with its certificate; at the end all are.
use Rattle.std.proofs.Common.{Bool, Ok, drop_of_length-le, subst}
use Rattle.rx_solve.specs.Shown.{RowAnswers}
use Rattle.rx_solve.proofs.Proving.{Proving, after_row, all_done}
use Rattle.rx_solve.proofs.showing.show_in_order.Goals as goal

pub loop-row-preserved : goal.loop-row-preserved
loop-row-preserved g c =
    let at = c.loop-row in
    let given = c.args.given.now in
    let row = c.row-item.result in
    let next = c.show_row.new.certs in
    record {
      solver = c.in_ok-show_row.ensures.solver;
      asked = c.in_ok-show_row.ensures.kept;
      proving =
          after_row given c.args.rows.now at.row-index row at.certs next c.loop-row-test.true
          c.row-item.is at.invariant.proving
          (subst (λ (b : Bool). RowAnswers given row at.certs next (Ok b)) c.if-not-branch.false
          c.in_ok-show_row.ensures.answer);
    }

pub returns-clause-answer : goal.returns-clause-answer
returns-clause-answer g c =
    all_done c.args.given.now c.args.rows.now c.loop-row.row-index c.loop-row.certs
    (subst (λ rs. Proving c.args.given.now c.args.rows.now c.loop-row.row-index rs c.loop-row.certs)
    (drop_of_length-le c.args.rows.now c.loop-row-test.false) c.loop-row.invariant.proving)
