-- The vertices in order name their components.
use Rattle.std.proofs.Common.{◌∙◌, arith, length}
use Rattle.rx_graph.specs.Graph.{rows_of}
use Rattle.rx_graph.proofs.ComponentLaws.{all_labels, begin_labels, label_more}
use Rattle.rx_graph.proofs.graph.Graph.components.Goals as goal

pub loop-vertex-init : goal.loop-vertex-init
loop-vertex-init c =
    let size = c.len.ensures in
    let held = c.args.self.now.rows.ok.0 in
    let count = c.in_ok-labels.ensures.count in
    record {
      count = omega (arith, count, size, held);
      labels = λ edges graph.
          begin_labels (length c.args.self.now.rows.items) edges c.in_ok-labels.labels.items
          (λ a less. c.in_ok-labels.ensures.own a (omega (arith, less, size, held)));
    }

pub loop-vertex-preserved : goal.loop-vertex-preserved
loop-vertex-preserved c =
    let rows = c.args.self.now.rows in
    let n = length rows.items in
    let there = c.loop-vertex-test.true in
    let size = c.len-vertex-end.ensures in
    let held = rows.ok.0 in
    record {
      count = c.label_component.ensures.count ∙ c.loop-vertex.invariant.count;
      labels = λ edges graph.
          label_more n edges c.loop-vertex.vertex c.loop-vertex.labels.items
          c.label_component.new.labels.items (omega (arith, there, size, held))
          (c.loop-vertex.invariant.labels edges graph)
          (c.in_ok-label_component.ensures.named edges graph
          (c.in_ok-back.ensures.edges edges graph));
    }

pub returns : goal.returns
returns c =
    let rows = c.args.self.now.rows in
    let end = c.loop-vertex-test.false in
    let size = c.len-vertex-end.ensures in
    let held = rows.ok.0 in
    record {
      count = c.loop-vertex.invariant.count;
      least = λ edges graph.
          all_labels (length rows.items) edges (rows_of rows.items) graph c.requires.closed
          c.loop-vertex.vertex c.loop-vertex.labels.items (omega (arith, end, size, held))
          (c.loop-vertex.invariant.labels edges graph);
    }
