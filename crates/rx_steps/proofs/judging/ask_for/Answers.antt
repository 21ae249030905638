-- A group that asks for more than are left makes the count another.
use Rattle.rx_steps.proofs.GroupLaws.{too_few}
use Rattle.rx_steps.proofs.judging.ask_for.Goals as goal

pub returns-then-left-asked : goal.returns-then-left-asked
returns-then-left-asked c =
    too_few c.args.old.now c.args.new.now c.args.groups.now c.loop-group.group-index
    c.group-item.result c.rows_under.result.now c.as_slice.result.now c.count_asked-asked.result
    c.loop-group-test.true c.group-item.is c.rows_under.ensures c.as_slice.ensures
    c.count_asked-asked.ensures c.args.count c.loop-group.left c.loop-group.invariant
    c.if-left-asked.true
