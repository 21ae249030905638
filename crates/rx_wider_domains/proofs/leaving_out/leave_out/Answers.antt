-- One row more.
use Rattle.std.proofs.Common.{◌∙◌, ◌+◌, ap, sym, drop, List}
use Rattle.std.specs.List.{fold}
use Rattle.std.proofs.lemmas.List.{drop_all}
use Rattle.rx_row.specs.declared.row.Row.{Row}
use Rattle.rx_find_domains.proofs.Settling.{fold_next}
use Rattle.rx_wider_domains.specs.Finding.{leaving, tried}
use Rattle.rx_wider_domains.proofs.ServingLaws.{left_out_is}
use Rattle.rx_wider_domains.proofs.leaving_out.leave_out.Goals as goal

pub loop-at-init : goal.loop-at-init
loop-at-init g c = record {
  solver = c.requires.solver;
  decides =
      ap (fold (leaving c.args.aim.rules.now c.args.aim.goal.now) c.args.lists.now.items)
      (c.as_slice-rows.ensures.value ∙ c.in_ok-tried.ensures ∙ ap tried c.as_slice.ensures.value);
}

pub loop-at-preserved : goal.loop-at-preserved
loop-at-preserved g c =
    let step = leaving c.args.aim.rules.now c.args.aim.goal.now in
    record {
      solver = c.in_ok-leave_row.ensures.solver;
      decides =
          ap (λ (ls : List (List Row)).
          fold step ls (drop (c.loop-at.at-index + 1) c.as_slice-rows.result.now))
          c.in_ok-leave_row.ensures.lists ∙
          fold_next step c.loop-at.lists.items c.as_slice-rows.result.now c.loop-at.at-index
          c.at-item.result c.loop-at-test.true c.at-item.is ∙ c.loop-at.invariant.decides;
    }

pub returns-clause-lists : goal.returns-clause-lists
returns-clause-lists g c =
    sym (ap (fold (leaving c.args.aim.rules.now c.args.aim.goal.now) c.loop-at.lists.items)
    (drop_all c.loop-at.at-index c.as_slice-rows.result.now c.loop-at-test.false)) ∙
    c.loop-at.invariant.decides ∙
    left_out_is c.args.aim.rules.now c.args.aim.goal.now c.args.lists.now.items
