-- One group more is shown; the first that isn't decides; at the end none is left.
use Rattle.std.proofs.Common.{drop_of_length-le, subst}
use Rattle.rx_solve.specs.Shown.{IsAllShown}
use Rattle.rx_settle.proofs.ShowingLaws.{SoFar, all_groups, beyond_here, none_here, one_more}
use Rattle.rx_settle.proofs.showing.show_groups.Goals as goal

pub returns-in-NotShown-clause-answer : goal.returns-in-NotShown-clause-answer
returns-in-NotShown-clause-answer g c =
    none_here c.args.old.now c.args.new.now c.args.groups.now c.loop-group.group-index
    c.group-item.result c.rows_under-given.result.now c.as_slice.result.now c.loop-group.certs
    c.loop-group-test.true c.group-item.is c.rows_under-given.ensures c.as_slice.ensures
    c.loop-group.invariant.so_far
    (subst (λ a. IsAllShown c.rows_under-given.result.now c.as_slice.result.now a) c.in-NotShown.is
    c.in_ok-more.ensures.answer)

pub returns-in-TooLarge-clause-answer : goal.returns-in-TooLarge-clause-answer
returns-in-TooLarge-clause-answer g c =
    beyond_here c.args.old.now c.args.new.now c.args.groups.now c.loop-group.group-index
    c.group-item.result c.rows_under-given.result.now c.as_slice.result.now c.loop-group.certs
    c.loop-group-test.true c.group-item.is c.rows_under-given.ensures c.as_slice.ensures
    c.loop-group.invariant.so_far
    (subst (λ a. IsAllShown c.rows_under-given.result.now c.as_slice.result.now a) c.in-TooLarge.is
    c.in_ok-more.ensures.answer)

pub loop-group-preserved : goal.loop-group-preserved
loop-group-preserved g c = record {
  solver = c.show_all.ensures.solver;
  so_far =
      one_more c.args.old.now c.args.new.now c.args.groups.now c.loop-group.group-index
      c.group-item.result c.rows_under-given.result.now c.as_slice.result.now c.loop-group.certs
      c.loop-group-test.true c.group-item.is c.rows_under-given.ensures c.as_slice.ensures
      c.loop-group.invariant.so_far c.in-Shown.more c.append.new.self
      c.in_ok-append-in-Shown.ensures.ok
      (subst (λ a. IsAllShown c.rows_under-given.result.now c.as_slice.result.now a) c.in-Shown.is
      c.in_ok-more.ensures.answer);
}

pub returns-clause-answer : goal.returns-clause-answer
returns-clause-answer g c =
    all_groups c.args.old.now c.args.new.now c.args.groups.now c.loop-group.certs
    (subst (λ rest. SoFar c.args.old.now c.args.new.now c.args.groups.now c.loop-group.certs rest)
    (drop_of_length-le c.args.groups.now c.loop-group-test.false) c.loop-group.invariant.so_far)
