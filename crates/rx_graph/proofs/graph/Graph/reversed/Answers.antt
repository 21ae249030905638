-- One more vertex.
use Rattle.std.proofs.Common.{◌∙◌, ◌<◌, arith, length}
use Rattle.std.proofs.lemmas.List.{length-map}
use Rattle.rx_graph.specs.Graph.{rows_of}
use Rattle.rx_graph.proofs.Marking.{row_read, row_within}
use Rattle.rx_graph.proofs.RowLaws.{begin_reversed, same_count, turn_more, reversed_closed, reversed_graph}
use Rattle.rx_graph.proofs.graph.Graph.reversed.Goals as goal

pub add_from_all-requires : goal.add_from_all-requires
add_from_all-requires c =
    let rows = c.args.self.now.rows in
    let count = c.loop-vertex.invariant.count in
    let there = c.loop-vertex-test.true in
    let size = c.len-vertex-end.ensures in
    let held = rows.ok.0 in
    let at : c.loop-vertex.vertex < length rows.items = omega (arith, there, size, held) in
    let read = row_read rows.items c.loop-vertex.vertex c.index.result.now c.as_slice.result.now at
    c.index.ensures c.as_slice.ensures.value in
    record {
      sources =
          λ a among. let h = row_within rows.items c.loop-vertex.vertex c.as_slice.result.now
          c.requires.closed read a among in omega (arith, h, count);
      to = omega (arith, there, size, held, count);
    }

pub loop-vertex-init : goal.loop-vertex-init
loop-vertex-init c =
    let rows = c.args.self.now.rows in
    let made = c.in_ok-back.ensures.edges in
    let count = made.count in
    let mapped = length-map c.in_ok-back.back.rows.items (λ row. row.items) in
    let size = c.len.ensures in
    let held = rows.ok.0 in
    record {
      count = omega (arith, count, mapped, size, held);
      turned =
          begin_reversed c.len.result (rows_of rows.items) (rows_of c.in_ok-back.back.rows.items)
          made;
    }

pub loop-vertex-preserved : goal.loop-vertex-preserved
loop-vertex-preserved c =
    let rows = c.args.self.now.rows in
    let there = c.loop-vertex-test.true in
    let size = c.len-vertex-end.ensures in
    let held = rows.ok.0 in
    let read = row_read rows.items c.loop-vertex.vertex c.index.result.now c.as_slice.result.now
    (omega (arith, there, size, held)) c.index.ensures c.as_slice.ensures.value in
    let all = c.in_ok-add_from_all.ensures in
    record {
      count =
          same_count c.loop-vertex.back.rows.items c.add_from_all.new.self.rows.items all.count ∙
          c.loop-vertex.invariant.count;
      turned =
          turn_more (rows_of rows.items) (rows_of c.loop-vertex.back.rows.items)
          (rows_of c.add_from_all.new.self.rows.items) c.loop-vertex.vertex
          c.as_slice.result.now read c.loop-vertex.invariant.turned all;
    }

pub returns : goal.returns
returns c =
    let rows = c.args.self.now.rows in
    let back = c.loop-vertex.back.rows in
    let count = c.loop-vertex.invariant.count in
    let end = c.loop-vertex-test.false in
    let upto = c.loop-vertex.auto.vertex-end in
    let size = c.len-vertex-end.ensures in
    let held = rows.ok.0 in
    let mapped = length-map back.items (λ row. row.items) in
    record {
      count = count;
      edges = λ edges graph.
          reversed_graph (length rows.items) edges (rows_of rows.items) (rows_of back.items)
          c.loop-vertex.vertex (omega (arith, end, size, held)) (mapped ∙ count)
          c.loop-vertex.invariant.turned graph;
      closed =
          reversed_closed (rows_of rows.items) (rows_of back.items) c.loop-vertex.vertex
          (omega (arith, upto, size, held, count, mapped)) c.loop-vertex.invariant.turned;
    }
