-- One more row.
use Rattle.rx_graph.proofs.RowLaws.{push_row}
use Rattle.rx_graph.proofs.graph.empty_rows.Goals as goal

pub loop-row-preserved : goal.loop-row-preserved
loop-row-preserved c =
    push_row c.loop-row._row c.loop-row.rows.items c.push.new.self.items c.new.result
    c.in_ok-push.ensures.items c.new.ensures.items c.loop-row.invariant
