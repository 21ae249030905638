-- Rows with a certificate are met by no integers.
use Rattle.std.proofs.Common.{◌≡◌, ◌∙◌, List, subst}
use Rattle.rx_row.specs.declared.row.Row.{Row}
use Rattle.rx_solve.specs.Answers.{AnswersFor}
use Rattle.rx_solve.specs.Refuter.{solving}
use Rattle.rx_solve.proofs.Phases.{answer_unmet}
use Rattle.rx_solve.proofs.refuter.refutes.Goals as goal

pub returns-clause-refuted : goal.returns-clause-refuted
returns-clause-refuted c =
    let same : c.in_ok-copy.copy.items ≡ c.args.rows.now = c.in_ok-copy.ensures ∙ c.rows.ensures in
    answer_unmet c.solve_in_order.result c.args.rows.now
    (subst (λ (rs : List Row). AnswersFor (solving 100) 174 rs c.solve_in_order.result) same
    c.solve_in_order.ensures)
