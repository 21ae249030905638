-- What is marked both ways gets the label.
use Rattle.std.proofs.Common.{◌≡◌, ◌∙◌, ap, arith, get_or, length, subst, sym, true, false}
use Rattle.rx_plain.proofs.Booleans.{passed}
use Rattle.rx_graph.specs.Graph.{IsGraphOf, MarksReached, reversed_edges, rows_of}
use Rattle.rx_graph.specs.Marks.{Labelled, Named}
use Rattle.rx_graph.proofs.ComponentLaws.{label_alone, label_marked, no_path, path_back}
use Rattle.rx_graph.proofs.Elements.{same_at, written_back}
use Rattle.rx_graph.proofs.GraphLaws.{path_after}
use Rattle.rx_graph.proofs.graph.Graph.label_component.Goals as goal
use Rattle.rx_graph.proofs.graph.Graph.label_component.Goals.{then-is_end-via-then-is_end, then-is_end-via-else-is_end+then-is_end-2}

pub returns-then-is_end-clause-named : goal.returns-then-is_end-clause-named
returns-then-is_end-clause-named c = λ edges graph back_graph.
    let v = c.args.vertex in
    label_alone edges v c.args.labels.now.items (elim c.then-is_end.branch [
      | then-is_end-via-then-is_end w ↦ λ b there here. no_path (length c.args.self.now.rows.items)
          edges (rows_of c.args.self.now.rows.items) v b graph
          (passed c.is_end.result w.if-is_end.true c.is_end.ensures) there
      | then-is_end-via-else-is_end+then-is_end-2 w ↦ λ b there here. no_path
          (length c.args.self.now.rows.items) (reversed_edges edges)
          (rows_of c.args.back.now.rows.items) v b back_graph
          (passed w.is_end-else-is_end.result w.if-is_end-2.true w.is_end-else-is_end.ensures)
          (path_back edges b v here)
    ])

pub returns-then-not-index-clause-named : goal.returns-then-not-index-clause-named
returns-then-not-index-clause-named c = λ edges graph back_graph.
    let v = c.args.vertex in
    let marks = c.in_ok-forwards.forwards.items in
    let there = c.requires.vertex in
    let count = c.in_ok-forwards.ensures.count in
    label_alone edges v c.args.labels.now.items (λ b goes returns.
    let marked = (c.in_ok-forwards.ensures.exact edges graph v).1
    (path_after edges v b v goes returns) in
    let read : c.index-2.result.now ≡ true =
    c.index-2.ensures ∙ same_at marks v c.index-2.result.now false (omega (arith, there, count)) ∙
    marked in
    let k : true ≡ false = sym read ∙ c.if-not-index.true in
    cc)

pub returns-clause-count : goal.returns-clause-count
returns-clause-count c =
    ap length (written_back c.args.labels.now.items c.label_both.new.labels c.args.labels.now.len
    (sym c.args.labels.now.ok.0) (c.label_both.ensures.count ∙
    ap length c.as_mut_slice.ensures.value)) ∙ c.label_both.ensures.count ∙
    ap length c.as_mut_slice.ensures.value

pub returns-clause-named : goal.returns-clause-named
returns-clause-named c = λ edges graph back_graph.
    let labels = c.args.labels.now.items in
    let after = c.label_both.new.labels in
    let slice = c.as_mut_slice.ensures.value in
    let vertex = c.args.vertex in
    let there = c.requires.vertex in
    let count = c.requires.labels in
    let own : get_or labels vertex 0 ≡ vertex =
    same_at labels vertex 0 c.index.result.now (omega (arith, there, count)) ∙ sym c.index.ensures ∙
    c.if-index-vertex.false in
    let forwards = subst (MarksReached edges vertex) (sym c.as_slice.ensures.value)
    (c.in_ok-forwards.ensures.exact edges graph) in
    let at_back = subst (λ n. IsGraphOf n (reversed_edges edges)
    (rows_of c.args.back.now.rows.items)) (sym c.requires.count) back_graph in
    let backwards = subst (MarksReached (reversed_edges edges) vertex)
    (sym c.as_slice-2.ensures.value) (c.in_ok-backwards.ensures.exact (reversed_edges edges)
    at_back) in
    let made = subst (λ ls. Labelled c.as_slice.result.now c.as_slice-2.result.now vertex ls after)
    slice c.label_both.ensures in
    subst (Named edges vertex labels) (sym (written_back labels after c.args.labels.now.len
    (sym c.args.labels.now.ok.0) made.count))
    (label_marked edges vertex c.as_slice.result.now c.as_slice-2.result.now labels after own
    forwards backwards made)
