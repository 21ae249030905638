-- The column is that of the heights, and the pairs between components are closed by it.
use Rattle.std.proofs.Common.{◌∙◌, List, ℕ, ap, arith, length, refl, subst, ◌≡◌}
use Rattle.std.specs.List.{filter}
use Rattle.rx_graph.specs.Components.{AreComponents}
use Rattle.rx_graph.specs.Heights.{AreHeights}
use Rattle.rx_pairs.specs.Graph.{edges_of}
use Rattle.rx_find_ranks.proofs.ProgressLaws.{heights_grown, heights_pairs}
use Rattle.rx_find_ranks.specs.Closing.{close_all}
use Rattle.rx_find_ranks.specs.Between.{is_leaving, is_staying}
use Rattle.rx_rank.specs.Components.{representatives_of}
use Rattle.rx_find_ranks.specs.Tables.{pairs_open}
use Rattle.rx_find_ranks.specs.declared.column.FoundColumn.TheVariants.{Heights}
use Rattle.rx_find_ranks.specs.declared.open_pair.OpenPair.{OpenPair}
use Rattle.rx_find_ranks.proofs.progress.add_heights.Goals as goal

pub returns-clause-pairs : goal.returns-clause-pairs
returns-clause-pairs c =
    heights_pairs c.args.symbols c.args.progress.entries.items c.as_slice.result.now
    c.in_ok-left.left.items c.in_ok-levels.levels.names.items c.as_slice-2.result.now
    c.as_slice.ensures.value c.as_slice-2.ensures.value c.in_ok-levels.ensures.names
    c.in_ok-left.ensures.staying

pub returns-clause-grown : goal.returns-clause-grown
returns-clause-grown c = λ infos size.
    let n = c.args.symbols in
    let names = c.in_ok-levels.levels.names.items in
    let heights = c.in_ok-levels.levels.heights.items in
    let entries = c.args.progress.entries.items in
    heights_grown n infos size c.requires.few c.args.progress
    (record {
      columns = c.push.new.self;
      entries = c.in_ok-left.left;
      closed =
          c.close_between.new.closed;
    })
    names heights (Heights c.in_ok-levels.levels.heights)
    (record {
      found =
          c.in_ok-levels.ensures.names ∙ ap (λ (es : List OpenPair). representatives_of n
          (pairs_open es))
          c.as_slice.ensures.value;
      components =
          subst (λ (es : List OpenPair). AreComponents n (edges_of (pairs_open es)) names)
          c.as_slice.ensures.value c.in_ok-levels.ensures.components;
      high =
          subst (λ (es : List OpenPair). AreHeights n (edges_of (pairs_open es)) heights)
          c.as_slice.ensures.value c.in_ok-levels.ensures.heights;
      count = c.in_ok-levels.ensures.count;
      low = c.in_ok-levels.ensures.below;
    })
    c.requires.over
    refl
    c.in_ok-push.ensures.items
    (c.in_ok-left.ensures.staying ∙ ap (λ (ns : List ℕ). filter (is_staying ns) entries)
    c.as_slice-2.ensures.value)
    (c.in_ok-left.ensures.leaving
    ∙ ap (λ (ns : List ℕ). close_all c.len-number.result c.args.progress.closed.items
    (filter (is_leaving ns) entries)) c.as_slice-2.ensures.value
    ∙ ap (λ k. close_all k c.args.progress.closed.items (filter (is_leaving names) entries))
    (let size = c.push.new.self.ok.0 in let len = c.len-number.ensures in
    let same : c.len-number.result ≡ length c.push.new.self.items = omega (arith, size, len) in
    same))
