-- Each turn adds one multiple; what is left still decides the whole sum and its limits.
use Rattle.std.proofs.Common.{Some, None, sym, refl, ap, ◌∙◌}
use Rattle.std.specs.Option.{option_copied}
use Rattle.std.proofs.lemmas.Result.{err_from_is_err_and}
use Rattle.rx_row.proofs.Summing.{after_multiple, no_multiple}
use Rattle.rx_row.proofs.parts.sum_of_multiples.Goals as goal
use Rattle.rx_row.proofs.parts.sum_of_multiples.Goals.{in-Some+in_ok-sum-2, in_default}

pub returns-in_err-sum-2 : goal.returns-in_err-sum-2
returns-in_err-sum-2 c =
    let p = err_from_is_err_and c.from_residual-in_err-sum-2.result
    c.from_residual-in_err-sum-2.ensures.1 in
    rw (p.1, p.2) (record {
      forms = λ h. no_multiple c.args.rows.now c.args.parts.now
          c.loop-at.at-index c.loop-at-test.true c.loop-at.invariant (Some c.in-Some.row.now)
          (sym c.in-Some.ensures) (c.in_err-sum-2.ensures.forms h);
    })

pub loop-at-preserved : goal.loop-at-preserved
loop-at-preserved c =
    elim c.match-row_at.branch [
      | in-Some+in_ok-sum-2 w ↦ after_multiple c.args.rows.now c.args.parts.now c.loop-at.at-index
          c.loop-at-test.true c.loop-at.invariant (Some w.in-Some.row.now) (sym w.in-Some.ensures)
          (w.sum-is ∙ w.in_ok-sum-2.ensures.forms.0) w.in_ok-sum-2.ensures.forms.1
      | in_default w ↦ after_multiple c.args.rows.now c.args.parts.now c.loop-at.at-index
          c.loop-at-test.true c.loop-at.invariant None
          (sym c.row_at.ensures ∙ ap option_copied w.in_default.is) w.sum-is refl
    ]
