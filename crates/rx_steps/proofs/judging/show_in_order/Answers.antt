-- A group is shown and the others decide, or it ends the list.
use Rattle.std.proofs.Common.{◌∙◌, ap, sym, arith, rules}
use Rattle.std.proofs.lemmas.Result.{err_from_is_err_and}
use Rattle.rx_inference.specs.Judging.{of_conditions}
use Rattle.rx_steps.specs.Faults.{fault}
use Rattle.rx_steps.proofs.GroupLaws.{after_fault, after_shown, asked_on}
use Rattle.rx_steps.proofs.judging.show_in_order.Goals as goal

pub returns-in_err-show_rows : goal.returns-in_err-show_rows
returns-in_err-show_rows c =
    let p = err_from_is_err_and c.from_residual.result c.from_residual.ensures.1 in
    rw (p.1, p.2) (λ other.
    ap of_conditions (sym c.loop-group.invariant.decides)
    ∙ after_fault c.args.old.now c.args.new.now c.args.groups.now c.loop-group.group-index
    c.group-item.result c.rows_under-given.result.now c.as_slice-rows.result.now
    c.count_asked.result
    c.loop-group-test.true c.group-item.is c.rows_under-given.ensures c.as_slice-rows.ensures
    c.count_asked.ensures c.loop-group.first c.loop-group.left.now c.split_at.result.0.now
    c.split_at.result.1.now c.split_at.ensures.front c.split_at.ensures.back
    (fault c.in_err-show_rows.field-0.0) (c.in_err-show_rows.ensures other))

pub loop-group-preserved : goal.loop-group-preserved
loop-group-preserved c =
    let on = asked_on c.args.old.now c.args.new.now c.args.groups.now c.loop-group.group-index
    c.group-item.result c.rows_under-given.result.now c.as_slice-rows.result.now
    c.count_asked.result
    c.loop-group-test.true c.group-item.is c.rows_under-given.ensures c.as_slice-rows.ensures
    c.count_asked.ensures in
    let left = c.loop-group.invariant.count in
    let later = c.split_at.ensures.back_len in
    record {
      decides =
          sym (after_shown c.args.old.now c.args.new.now c.args.groups.now c.loop-group.group-index
          c.group-item.result c.rows_under-given.result.now c.as_slice-rows.result.now
          c.count_asked.result
          c.loop-group-test.true c.group-item.is c.rows_under-given.ensures c.as_slice-rows.ensures
          c.count_asked.ensures c.loop-group.first c.loop-group.left.now c.split_at.result.0.now
          c.split_at.result.1.now c.split_at.ensures.front c.split_at.ensures.back c.in-Some.next
          (search rules) c.in_ok-show_rows.ensures) ∙ c.loop-group.invariant.decides;
      count = omega (arith, on, left, later);
    }
