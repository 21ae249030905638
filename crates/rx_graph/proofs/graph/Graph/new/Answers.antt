-- Without edges, none leads out.
use Rattle.rx_graph.specs.Graph.{rows_of}
use Rattle.rx_graph.proofs.RowLaws.{empty_closed}
use Rattle.rx_graph.proofs.graph.Graph.new.Goals as goal

pub returns-clause-closed : goal.returns-clause-closed
returns-clause-closed c =
    empty_closed c.args.vertices (rows_of c.in_ok-empty_rows.field-0.items)
    c.in_ok-empty_rows.ensures
