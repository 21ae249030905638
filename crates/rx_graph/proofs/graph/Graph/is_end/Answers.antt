-- What is read of the row is the row.
use Rattle.rx_graph.proofs.ComponentLaws.{no_targets}
use Rattle.rx_graph.proofs.Marking.{row_read}
use Rattle.rx_graph.proofs.graph.Graph.is_end.Goals as goal

pub returns : goal.returns
returns c =
    no_targets c.is_empty.result c.as_slice.result.now c.is_empty.ensures
    (row_read c.args.self.now.rows.items c.args.vertex c.index.result.now c.as_slice.result.now
    c.requires.vertex c.index.ensures c.as_slice.ensures.value)
