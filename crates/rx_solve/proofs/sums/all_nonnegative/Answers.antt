-- What a row says comes after the others; at the end no row is left.
use Rattle.std.proofs.Common.{[]}
use Rattle.std.specs.List.{list_all}
use Rattle.rx_poly.proofs.VariableLaws.{listed_end}
use Rattle.rx_solve.specs.Sums.{all_nonnegative, nonnegative, opposite_within}
use Rattle.rx_solve.proofs.Walks.{listed_next, tested_end, tested_next}
use Rattle.rx_solve.proofs.sums.all_nonnegative.Goals as goal

pub loop-row-preserved : goal.loop-row-preserved
loop-row-preserved c =
    let rows = c.args.rows.now in
    let at = c.loop-row in
    let i = at.row-index in
    let row = c.row-item.result in (
      listed_next rows i row c.loop-row-test.true c.row-item.is nonnegative at.polys.items
          c.push_nonnegative.new.polys.items (all_nonnegative rows) at.invariant.0
          c.in_ok-push_nonnegative.ensures.0,
      tested_next rows i row c.loop-row-test.true c.row-item.is opposite_within
          (list_all opposite_within rows) at.invariant.1 c.in_ok-push_nonnegative.ensures.1,
    )

pub returns : goal.returns
returns c =
    let rows = c.args.rows.now in
    let at = c.loop-row in (
      listed_end nonnegative rows at.row-index at.polys.items [] c.loop-row-test.false
          at.invariant.0,
      tested_end opposite_within rows at.row-index (list_all opposite_within rows)
          c.loop-row-test.false at.invariant.1,
    )
