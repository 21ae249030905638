-- The labels of its components, and their heights.
use Rattle.std.proofs.Common.{◌≡◌, List, ℕ, ◌<◌, ◌∙◌, get_or, ap, arith, length, subst, sym}
use Rattle.rx_graph.specs.Components.{AreComponents}
use Rattle.rx_graph.specs.Graph.{IsOver}
use Rattle.rx_graph.specs.Heights.{AreHeights}
use Rattle.rx_pairs.specs.Graph.{edges_of}
use Rattle.rx_pairs.specs.declared.pair.Pair.{Pair}
use Rattle.rx_rank.specs.Answers.{pairs_at}
use Rattle.rx_rank.specs.Components.{representatives_of}
use Rattle.rx_rank.proofs.NameLaws.{graph_at, names_at, rows_by}
use Rattle.rx_find_ranks.specs.Tables.{pairs_open}
use Rattle.rx_find_ranks.proofs.levels.find_levels.Goals as goal

pub graph_of-requires : goal.graph_of-requires
graph_of-requires c =
    subst (λ (ps : List Pair). IsOver c.args.symbols (edges_of ps))
    (sym (ap pairs_at c.as_slice.ensures.value ∙ c.in_ok-pairs.ensures)) c.requires.over

pub components-requires : goal.components-requires
components-requires c =
    let size = rows_by c.args.symbols (pairs_at c.as_slice.result.now)
    c.in_ok-graph.graph.rows.items c.in_ok-graph.ensures.edges in
    let few = c.requires.few in
    record { closed = c.in_ok-graph.ensures.closed; few = omega (arith, size, few) }

pub heights-requires : goal.heights-requires
heights-requires c =
    let size = rows_by c.args.symbols (pairs_at c.as_slice.result.now)
    c.in_ok-graph.graph.rows.items c.in_ok-graph.ensures.edges in
    let few = c.requires.few in
    let rows = c.in_ok-graph.graph.rows.items in
    record {
      closed = c.in_ok-graph.ensures.closed;
      few = omega (arith, size, few);
      count =
          ap (λ (ls : List ℕ). length ls) c.as_slice-2.ensures.value ∙ c.in_ok-names.ensures.count;
      labels =
          λ edges graph. subst (λ (ls : List ℕ). AreComponents (length rows) edges ls)
          (sym c.as_slice-2.ensures.value) (c.in_ok-names.ensures.least edges graph);
    }

pub returns-clause-names : goal.returns-clause-names
returns-clause-names c =
    let pairs = pairs_at c.as_slice.result.now in
    let same : pairs ≡ pairs_open c.args.entries.now =
    ap pairs_at c.as_slice.ensures.value ∙ c.in_ok-pairs.ensures in
    names_at c.args.symbols pairs c.in_ok-graph.graph.rows.items c.in_ok-graph.ensures.edges
    (subst (λ (ps : List Pair). IsOver c.args.symbols (edges_of ps)) (sym same) c.requires.over)
    c.in_ok-names.names.items c.in_ok-names.ensures.count c.in_ok-names.ensures.least
    ∙ ap (representatives_of c.args.symbols) same

pub returns-clause-heights : goal.returns-clause-heights
returns-clause-heights c =
    let pairs = pairs_at c.as_slice.result.now in
    let same : pairs ≡ pairs_open c.args.entries.now =
    ap pairs_at c.as_slice.ensures.value ∙ c.in_ok-pairs.ensures in
    let rows = c.in_ok-graph.graph.rows.items in
    let graph = c.in_ok-graph.ensures.edges in
    let heights = c.in_ok-heights.heights.items in
    subst (λ (ps : List Pair). AreHeights c.args.symbols (edges_of ps) heights) same
    (subst (λ n. AreHeights n (edges_of pairs) heights) (rows_by c.args.symbols pairs rows graph)
    (c.in_ok-heights.ensures.heights (edges_of pairs) (graph_at c.args.symbols pairs rows graph)))

pub returns-clause-count : goal.returns-clause-count
returns-clause-count c =
    c.in_ok-heights.ensures.count ∙ rows_by c.args.symbols (pairs_at c.as_slice.result.now)
    c.in_ok-graph.graph.rows.items c.in_ok-graph.ensures.edges

pub returns-clause-components : goal.returns-clause-components
returns-clause-components c =
    let pairs = pairs_at c.as_slice.result.now in
    let same : pairs ≡ pairs_open c.args.entries.now =
    ap pairs_at c.as_slice.ensures.value ∙ c.in_ok-pairs.ensures in
    let rows = c.in_ok-graph.graph.rows.items in
    let graph = c.in_ok-graph.ensures.edges in
    let names = c.in_ok-names.names.items in
    subst (λ (ps : List Pair). AreComponents c.args.symbols (edges_of ps) names) same
    (subst (λ n. AreComponents n (edges_of pairs) names) (rows_by c.args.symbols pairs rows graph)
    (c.in_ok-names.ensures.least (edges_of pairs) (graph_at c.args.symbols pairs rows graph)))

pub returns-clause-below : goal.returns-clause-below
returns-clause-below c =
    subst (λ n. (a : ℕ) → a < n → get_or c.in_ok-heights.heights.items a 0 < n)
    (rows_by c.args.symbols (pairs_at c.as_slice.result.now) c.in_ok-graph.graph.rows.items
    c.in_ok-graph.ensures.edges) c.in_ok-heights.ensures.below
