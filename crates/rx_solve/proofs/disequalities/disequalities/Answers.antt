-- A disequality's number comes after the others; at the end no row is left.
use Rattle.rx_solve.specs.Disequalities.{disequalities_from}
use Rattle.rx_solve.proofs.Walks.{numbered_end, numbered_next}
use Rattle.rx_solve.proofs.disequalities.disequalities.Goals as goal

pub loop-at-preserved : goal.loop-at-preserved
loop-at-preserved c =
    let at = c.loop-at in
    numbered_next c.args.rows.now at.at c.index-rows-at.result c.loop-at-test.true c.index-rows-at.is
    at.numbers.items c.push_number.new.numbers.items (disequalities_from 0 c.args.rows.now)
    at.invariant c.in_ok-push_number.ensures

pub returns : goal.returns
returns c =
    numbered_end c.args.rows.now c.loop-at.at c.loop-at.numbers.items
    (disequalities_from 0 c.args.rows.now) c.loop-at-test.false c.loop-at.invariant
