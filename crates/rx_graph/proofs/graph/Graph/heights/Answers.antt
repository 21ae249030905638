-- All vertices are raised, and the heights of the labels are those of the vertices.
use Rattle.std.proofs.Common.{◌≡◌, ◌∙◌, ◌+◌, ap, arith, length, subst, sym}
use Rattle.std.proofs.lemmas.List.{length-map}
use Rattle.std.proofs.lemmas.Result.{IfOk-weaker}
use Rattle.rx_graph.specs.Graph.{rows_of}
use Rattle.rx_graph.specs.Ranked.{AreRanks, HeightsTo}
use Rattle.rx_graph.proofs.Elements.{written_back}
use Rattle.rx_graph.proofs.HeightLaws.{begin_heights, memory_below, memory_heights, memory_ranks}
use Rattle.rx_graph.proofs.graph.Graph.heights.Goals as goal

pub raise_all-requires-clause-ranks : goal.raise_all-requires-clause-ranks
raise_all-requires-clause-ranks c =
    subst (AreRanks (rows_of c.args.self.now.rows.items) c.args.labels.now)
    (sym c.as_slice.ensures.value)
    (memory_ranks c.args.self.now.rows.items c.requires.closed c.args.labels.now c.requires.labels
    c.in_ok-counts.counts.items c.in_ok-counts.ensures.counts)

pub raise_all-requires-clause-before : goal.raise_all-requires-clause-before
raise_all-requires-clause-before c =
    let rows = c.args.self.now.rows in
    let labels = c.args.labels.now in
    let size = c.len.ensures in
    let held = rows.ok.0 in
    let mapped = length-map rows.items (λ row. row.items) in
    let ranks = subst (AreRanks (rows_of rows.items) labels) (sym c.as_slice.ensures.value)
    (memory_ranks rows.items c.requires.closed labels c.requires.labels c.in_ok-counts.counts.items
    c.in_ok-counts.ensures.counts) in
    subst (HeightsTo (rows_of rows.items) labels c.as_slice.result.now 0 0)
    (sym (c.as_mut_slice.ensures.value ∙ c.in_ok-raised.ensures.items_if_clones_equal
    (λ y e. e)))
    (begin_heights (rows_of rows.items) labels c.as_slice.result.now c.len.result
    (omega (arith, size, held, mapped)) ranks)

pub component_heights-requires : goal.component_heights-requires
component_heights-requires c = λ a there.
    let rows = c.args.self.now.rows in
    let labels = c.args.labels.now in
    let mapped = length-map rows.items (λ row. row.items) in
    let count = c.requires.count in
    let full = c.raise_all.ensures.size in
    let ranks = memory_ranks rows.items c.requires.closed labels c.requires.labels
    c.in_ok-counts.counts.items c.in_ok-counts.ensures.counts in
    let h = ranks.named a (omega (arith, there, count, mapped)) in
    let back : c.as_slice-2.result.now ≡ c.raise_all.new.heights =
    c.as_slice-2.ensures.value
    ∙ written_back c.in_ok-raised.raised.items c.raise_all.new.heights c.in_ok-raised.raised.len
    (sym c.in_ok-raised.raised.ok.0) (c.raise_all.auto.heights ∙
    ap length c.as_mut_slice.ensures.value) in
    let same = ap length back in
    omega (arith, h, full, same)

pub returns-clause-below : goal.returns-clause-below
returns-clause-below c =
    let rows = c.args.self.now.rows in
    let labels = c.args.labels.now in
    let count = c.requires.count in
    let counts = c.in_ok-counts.counts.items in
    let ranks = memory_ranks rows.items c.requires.closed labels c.requires.labels counts
    c.in_ok-counts.ensures.counts in
    let back : c.as_slice-2.result.now ≡ c.raise_all.new.heights =
    c.as_slice-2.ensures.value
    ∙ written_back c.in_ok-raised.raised.items c.raise_all.new.heights c.in_ok-raised.raised.len
    (sym c.in_ok-raised.raised.ok.0) (c.raise_all.auto.heights ∙
    ap length c.as_mut_slice.ensures.value) in
    let done = subst (λ cs. HeightsTo (rows_of rows.items) labels cs (length rows.items + 1) 0
    c.as_slice-2.result.now) c.as_slice.ensures.value
    (subst (HeightsTo (rows_of rows.items) labels c.as_slice.result.now (length rows.items + 1) 0)
    (sym back) c.raise_all.ensures) in
    IfOk-weaker c.component_heights.result _ _
    (λ heights named. memory_below rows.items c.requires.closed labels c.requires.labels counts
    ranks c.as_slice-2.result.now heights.items done
    (λ a there. named a (omega (arith, there, count))))
    c.component_heights.ensures.named

pub returns-clause-heights : goal.returns-clause-heights
returns-clause-heights c =
    let rows = c.args.self.now.rows in
    let labels = c.args.labels.now in
    let count = c.requires.count in
    let counts = c.in_ok-counts.counts.items in
    let ranks = memory_ranks rows.items c.requires.closed labels c.requires.labels counts
    c.in_ok-counts.ensures.counts in
    let back : c.as_slice-2.result.now ≡ c.raise_all.new.heights =
    c.as_slice-2.ensures.value
    ∙ written_back c.in_ok-raised.raised.items c.raise_all.new.heights c.in_ok-raised.raised.len
    (sym c.in_ok-raised.raised.ok.0) (c.raise_all.auto.heights ∙
    ap length c.as_mut_slice.ensures.value) in
    let done = subst (λ cs. HeightsTo (rows_of rows.items) labels cs (length rows.items + 1) 0
    c.as_slice-2.result.now) c.as_slice.ensures.value
    (subst (HeightsTo (rows_of rows.items) labels c.as_slice.result.now (length rows.items + 1) 0)
    (sym back) c.raise_all.ensures) in
    IfOk-weaker c.component_heights.result _ _
    (λ heights named. memory_heights rows.items c.requires.closed labels c.requires.labels counts
    ranks c.as_slice-2.result.now heights.items done
    (λ a there. named a (omega (arith, there, count))))
    c.component_heights.ensures.named
