-- The row of the first vertex has the second after all that it had.
use Rattle.rx_graph.specs.Graph.{rows_of}
use Rattle.rx_graph.proofs.RowLaws.{added_graph, one_more}
use Rattle.rx_graph.proofs.graph.Graph.add.Goals as goal

pub returns-clause-edge : goal.returns-clause-edge
returns-clause-edge c =
    added_graph (rows_of c.args.self.now.rows.items) _ c.args.from c.args.to
    (one_more c.args.self.now.rows.items c.push.new.self c.index_mut.result.now c.args.from
    c.args.to c.requires.from c.index_mut.ensures.value c.in_ok-push.ensures.items)

pub returns-clause-row : goal.returns-clause-row
returns-clause-row c =
    one_more c.args.self.now.rows.items c.push.new.self c.index_mut.result.now c.args.from c.args.to
    c.requires.from c.index_mut.ensures.value c.in_ok-push.ensures.items
