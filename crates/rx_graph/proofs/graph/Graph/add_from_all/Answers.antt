-- One more source.
use Rattle.std.proofs.Common.{arith, get_or}
use Rattle.rx_graph.specs.Graph.{rows_of}
use Rattle.rx_graph.proofs.Elements.{target_among}
use Rattle.rx_graph.proofs.RowLaws.{all_and_one, same_count}
use Rattle.rx_graph.proofs.graph.Graph.add_from_all.Goals as goal

pub add-requires : goal.add-requires
add-requires c =
    let there = c.requires.sources (get_or c.args.sources.now c.loop-source.source-index 0)
    (target_among c.args.sources.now c.loop-source.source-index c.loop-source-test.true) in
    let same = same_count c.args.self.now.rows.items c.loop-source.self.rows.items
    c.loop-source.invariant.count in
    let to = c.requires.to in
    record { from = omega (arith, there, same); to = omega (arith, to, same) }

pub loop-source-preserved : goal.loop-source-preserved
loop-source-preserved c =
    all_and_one (rows_of c.args.self.now.rows.items) (rows_of c.loop-source.self.rows.items)
    (rows_of c.add.new.self.rows.items) c.args.sources.now
    c.loop-source.source-index c.args.to c.loop-source-test.true c.loop-source.invariant
    c.in_ok-add.ensures.row
