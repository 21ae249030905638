-- What is found with the value in place of the variable is found; where none is replaced, what is
-- found without.
use Rattle.std.proofs.Common.{◌≡◌, ◌∙◌, ◌∷◌, [], ◌+◌, ◌-◌, sym, suc, arith, rules}
use Rattle.std.proofs.lemmas.Result.{err_from_is_err_and}
use Rattle.rx_row.specs.Substitution.{rows_with}
use Rattle.rx_solve.specs.Refuter.{solving}
use Rattle.rx_solve.proofs.Phases.{formed_answer, no_more_solved, none_solved, one_solved, replaced_answer, replaced_said}
use Rattle.rx_solve.proofs.refuter.+solving.Goals as goal

pub replace_by-returns : goal.replace_by-returns
replace_by-returns t c =
    formed_answer (solving c.args.left) (c.args.left + 74)
    (rows_with ((c.args.var, c.args.value) ∷ []) c.args.rows.now) c.in_ok-changed.changed.items
    c.solve_in_order.result c.in_ok-changed.ensures.0 c.in_ok-changed.ensures.1
    c.solve_in_order.ensures

pub replace-returns-in_err-found : goal.replace-returns-in_err-found
replace-returns-in_err-found t c =
    let p = err_from_is_err_and c.from_residual-in_err-found.result
    c.from_residual-in_err-found.ensures.1 in
    rw (p.1, p.2) (λ large.
    replaced_said c.args.pivot.now.first c.args.pivot.now.second c.args.pivot.now.variable
    (solving c.args.left) (c.args.left + 74) c.args.rows.now c.in-Some.poly.now
    c.in-Some-2.value (sym c.in-Some.ensures)
    (sym c.in_ok-value.ensures.forms.0 ∙ c.in-Some-2.is) c.in_ok-value.ensures.forms.1
    ∙ c.in_err-found.ensures large)

pub replace-returns : goal.replace-returns
replace-returns t c =
    replaced_answer c.args.pivot.now.first c.args.pivot.now.second c.args.pivot.now.variable
    (solving c.args.left) (c.args.left + 74) c.args.rows.now c.in-Some.poly.now
    c.in-Some-2.value (sym c.in-Some.ensures)
    (sym c.in_ok-value.ensures.forms.0 ∙ c.in-Some-2.is) c.in_ok-value.ensures.forms.1
    (c.args.left + 75) (omega arith) c.in_ok-found.found c.in_ok-replaced_found.field-0
    c.in_ok-found.ensures c.in_ok-replaced_found.ensures

pub solve_in_order-returns-then-left-eq0 : goal.solve_in_order-returns-then-left-eq0
solve_in_order-returns-then-left-eq0 t c =
    no_more_solved c.args.left c.args.rows.now.items c.args.rows.now.items
    c.refute_by_differing.result (search rules) c.refute_by_differing.ensures.answer

pub solve_in_order-returns-in_default : goal.solve_in_order-returns-in_default
solve_in_order-returns-in_default t c =
    none_solved c.args.left c.args.rows.now.items c.as_slice.result.now c.in_ok-pivot.field-0
    c.refute_by_differing-in_default.result c.as_slice.ensures.value c.in_ok-pivot.ensures
    c.in_default.is
    c.refute_by_differing-in_default.ensures.answer

pub solve_in_order-returns : goal.solve_in_order-returns
solve_in_order-returns t c =
    let count : c.args.left ≡ suc (c.args.left - 1) = omega arith in
    one_solved c.args.left (c.args.left - 1) c.args.rows.now.items c.as_slice.result.now
    c.as_slice-2.result.now c.in_ok-pivot.field-0 c.in-Some.pivot c.replace.result count
    c.as_slice.ensures.value
    c.as_slice-2.ensures.value c.in_ok-pivot.ensures c.in-Some.is c.replace.ensures
