-- One more vertex.
use Rattle.std.proofs.Common.{◌<◌, ◌+◌, Contains, arith, get_or, length, subst, sym}
use Rattle.std.proofs.lemmas.List.{length-map}
use Rattle.rx_graph.specs.Graph.{rows_of}
use Rattle.rx_graph.specs.Ranked.{HeightsTo, Raised}
use Rattle.rx_graph.proofs.HeightLaws.{do_next, next_count, pass_over}
use Rattle.rx_graph.proofs.Marking.{row_read, row_within}
use Rattle.rx_graph.proofs.graph.Graph.raise_counted.Goals.{then-counts-vertex, else-counts-vertex}
use Rattle.rx_graph.proofs.graph.Graph.raise_counted.Goals as goal

pub raise-requires : goal.raise-requires
raise-requires c =
    let rows = c.args.self.now.rows in
    let labels = c.args.labels.now in
    let vertex = c.loop-vertex.vertex in
    let test = c.loop-vertex-test.true in
    let size = c.len-vertex-end.ensures in
    let held = rows.ok.0 in
    let there : vertex < length rows.items = omega (arith, test, size, held) in
    let mapped = length-map rows.items (λ row. row.items) in
    let read = row_read rows.items vertex c.index.result.now c.as_slice.result.now there
    c.index.ensures c.as_slice.ensures.value in
    let ranks = c.requires.ranks in
    let inv = c.loop-vertex.invariant in
    let full = inv.size in
    let all = c.requires.labels in
    let few = c.requires.few in
    record {
      targets =
          λ t among. let h = row_within rows.items vertex c.as_slice.result.now c.requires.closed
          read t among in omega (arith, h, all);
      names =
          λ t less. let h = ranks.named t (omega (arith, less, all, mapped)) in
          omega (arith, h, full);
      own = let h = ranks.named vertex (omega (arith, there, mapped)) in omega (arith, h, full);
      room = λ t among differs.
          let edge = subst (λ r. Contains r t) read among in
          let within = c.requires.closed vertex t edge in
          let low = inv.low t within in
          let falls = ranks.falls vertex t edge (λ same. differs (sym same)) in
          let most = ranks.most vertex (omega (arith, there, mapped)) in
          omega (arith, low, falls, most, few, mapped);
    }

pub loop-vertex-preserved : goal.loop-vertex-preserved
loop-vertex-preserved c =
    let rows = c.args.self.now.rows in
    let labels = c.args.labels.now in
    let counts = c.args.counts.now in
    let count = c.args.count in
    let vertex = c.loop-vertex.vertex in
    let test = c.loop-vertex-test.true in
    let size = c.len-vertex-end.ensures in
    let held = rows.ok.0 in
    let there : vertex < length rows.items = omega (arith, test, size, held) in
    let mapped = length-map rows.items (λ row. row.items) in
    let inv = c.loop-vertex.invariant in
    elim c.if-counts-vertex.branch [
      | then-counts-vertex w ↦
          let read = row_read rows.items vertex w.index.result.now w.as_slice.result.now there
          w.index.ensures w.as_slice.ensures.value in
          subst (HeightsTo (rows_of rows.items) labels counts count (vertex + 1)) (sym w.heights-is)
          (do_next (rows_of rows.items) labels counts c.requires.closed c.requires.ranks count
          vertex c.loop-vertex.heights w.raise.new.heights (omega (arith, there, mapped))
          w.if-counts-vertex.true inv (subst (λ r.
          Raised r labels (get_or labels vertex 0) c.loop-vertex.heights w.raise.new.heights)
          read w.raise.ensures))
      | else-counts-vertex w ↦
          subst (HeightsTo (rows_of rows.items) labels counts count (vertex + 1)) (sym w.heights-is)
          (pass_over (rows_of rows.items) labels counts c.requires.closed c.requires.ranks count
          vertex c.loop-vertex.heights w.if-counts-vertex.false inv)
    ]

pub returns : goal.returns
returns c =
    let rows = c.args.self.now.rows in
    let end = c.loop-vertex-test.false in
    let size = c.len-vertex-end.ensures in
    let held = rows.ok.0 in
    let mapped = length-map rows.items (λ row. row.items) in
    next_count (rows_of rows.items) c.args.labels.now c.args.counts.now c.requires.closed
    c.requires.ranks c.args.count c.loop-vertex.vertex c.loop-vertex.heights
    (omega (arith, end, size, held, mapped)) c.loop-vertex.invariant
