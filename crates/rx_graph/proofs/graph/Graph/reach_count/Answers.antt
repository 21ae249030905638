-- Where no edge leaves the vertex, it reaches itself alone.
use Rattle.std.proofs.Common.{length}
use Rattle.rx_plain.proofs.Booleans.{passed}
use Rattle.rx_graph.specs.Graph.{rows_of}
use Rattle.rx_graph.proofs.RankLaws.{reach_itself}
use Rattle.rx_graph.proofs.graph.Graph.reach_count.Goals as goal

pub returns-then-is_end : goal.returns-then-is_end
returns-then-is_end c = λ edges graph.
    reach_itself (length c.args.self.now.rows.items) edges (rows_of c.args.self.now.rows.items)
    c.args.vertex c.requires.vertex graph
    (passed c.is_end.result c.if-is_end.true c.is_end.ensures)
